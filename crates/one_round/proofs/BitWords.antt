-- The words of a decode are words of bits, one for each channel value; such a word is counted by its low bits. Assumes nothing.
use mathlib.Core.Path.{◌≡◌, ap, ◌∙◌}
use mathlib.Core.Bool.{true, false, cond}
use mathlib.Core.List.{List, [], ◌∷◌, map}
use Prim.Native.Nat.{ℕ, zero, suc, ◌<◌}
use native.Mathlib.Omega.{arith}
use lib.Ieee.{Float, le}
use lib.ListN.{length, length-map}
use Rattle.softmath.specs.Functions.{decide}
use Rattle.softmath.specs.Single.{zero32}
use Rattle.tanner.specs.Checks.{Checks, Word, count, Syndrome, syndrome}
use Rattle.tanner.specs.Masked.{count_masked, syndrome_masked}
use Rattle.lists.specs.Below.{Below}
use Rattle.tanner.proofs.Count.{bits-low}
use Rattle.tanner.proofs.First.{low-syndrome}
use Rattle.one_round.specs.Round.{Decode, decided_from, decided, initial_word}

decide_bit : (x : Float) → decide x < 2
unfolding decide
decide_bit x = elim (le x zero32) as (λ t. cond t 1 0 < 2) [ true ↦ omega arith | false ↦ omega arith ]

map-bits : (l : List Float) → Below 2 (map decide l)
unfolding Below
map-bits [] k h = absurd (omega arith)
map-bits (x ∷ l) zero h = decide_bit x
map-bits (x ∷ l) (suc k) h = map-bits l k (omega arith)

pub initial_bits : (d : Decode) → Below 2 (initial_word d)
unfolding initial_word
initial_bits d = map-bits d.llr

decided-bits : (d : Decode) (ans : List Float) (p : ℕ) (l : List Float) → Below 2 (decided_from d ans p l)
unfolding Below decided_from
decided-bits d ans p [] k h = absurd (omega arith)
decided-bits d ans p (x ∷ l) zero h = decide_bit _
decided-bits d ans p (x ∷ l) (suc k) h = decided-bits d ans (suc p) l k (omega arith)

pub word_bits : (d : Decode) (ans : List Float) → Below 2 (decided d ans)
word_bits d ans = decided-bits d ans 0 d.llr

pub initial_length : (d : Decode) → length (initial_word d) ≡ length d.llr
unfolding initial_word
initial_length d = length-map d.llr decide

-- a word of bits is counted by its low bits
pub masked_word : (cs : Checks) (w : Word) → Below 2 w → syndrome_masked 1 cs w ≡ syndrome cs w
masked_word cs w b = low-syndrome cs w ∙ ap (λ (v : Word). syndrome cs v) (bits-low w b)

pub counted_word : (cs : Checks) (w : Word) (found : ℕ) → Below 2 w → found ≡ count_masked 1 cs w → found ≡ count cs w
counted_word cs w found b e = e ∙ ap (λ (s : Syndrome). s.count) (masked_word cs w b)
