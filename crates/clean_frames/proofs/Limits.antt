-- A frame clean under a limit is clean under every larger one: its count is 0, so it is 0 under the larger limit, and equal counts give equal bits.
-- Assumes nothing.
use mathlib.Core.Path.{◌≡◌, sym, ap, ◌∙◌}
use mathlib.Core.Bool.{true}
use mathlib.Core.List.{List}
use mathlib.Mathlib.Data.Bool.Basic.{and_elim_left}
use Prim.Native.Nat.{ℕ, ◌≤◌}
use native.Mathlib.Omega.{arith}
use borrow.Author.Tests.{eqb-true}
use lib.Dec.{eqb}
use lib.Ieee.{Float}
use lib.ListN.{take}
use Rattle.rounds.specs.Rounds.{chosen_count, chosen_bits}
use Rattle.belief.proofs.Words.{count-falls, same_chosen}
use Rattle.batch.specs.Codes.{size_k, decode_of}
use Rattle.batch.specs.Promise.{Call, values_at, count_at, bits_at, SameFrame}
use Rattle.batch.proofs.Promise.{promise}
use Rattle.clean.specs.Clean.{frame_clean}
use Rattle.clean_frames.specs.Limits.{clean_under, clean_at, StaysClean, CleanInBoth}

clean_zero : (code : ℕ) (values : List Float) (count : ℕ) (bits : List ℕ) → frame_clean code values count bits ≡ true → count ≡ 0
unfolding frame_clean
clean_zero code values count bits h = eqb-true count 0 (and_elim_left (eqb count 0) _ h)

-- a count no greater, and bits that are equal where the counts are
clean_still : (code : ℕ) (values : List Float) (count count' : ℕ) (bits bits' : List ℕ) → count' ≤ count → (count ≡ count' → bits ≡ bits')
    → frame_clean code values count bits ≡ true → frame_clean code values count' bits' ≡ true
clean_still code values count count' bits bits' l e h =
    let zero = clean_zero code values count bits h in
    let same : count ≡ count' = omega arith in
    rw (← same, ← e same) h

pub stays_clean : (code rule : ℕ) (scale : Float) (values : List Float) → StaysClean code rule scale values
unfolding clean_under chosen_bits
stays_clean code rule scale values a b h =
    let d = decode_of code rule scale values in
    clean_still code values (chosen_count d a) (chosen_count d b) (chosen_bits d a (size_k code)) (chosen_bits d b (size_k code)) (count-falls d a b h)
    (λ e. ap (take (size_k code)) (sym (same_chosen d a b h (sym e))))

pub clean_in_both : (a b : Call) (i j : ℕ) → CleanInBoth a b i j
unfolding clean_at
clean_in_both a b i j s h =
    let p = promise a b i j s in
    ap (λ (code : ℕ). frame_clean code (values_at b j) (count_at b j) (bits_at b j)) (sym s.code)
    ∙ ap (λ (values : List Float). frame_clean a.handed.code values (count_at b j) (bits_at b j)) (sym s.frame)
    ∙ clean_still a.handed.code (values_at a i) (count_at a i) (count_at b j) (bits_at a i) (bits_at b j) p.no_greater p.equal_bits h

-- and its bits are the same
pub clean_bits : (a b : Call) (i j : ℕ) → SameFrame a b i j → clean_at a i ≡ true → bits_at a i ≡ bits_at b j
unfolding clean_at
clean_bits a b i j s h =
    let p = promise a b i j s in
    let zero = clean_zero a.handed.code (values_at a i) (count_at a i) (bits_at a i) h in
    p.equal_bits (omega (arith, zero, p.no_greater))
