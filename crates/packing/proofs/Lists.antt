-- One more byte packed, and the last: by splitting the list at the loop's index. Assumes nothing.
use mathlib.Core.Path.{◌≡◌, refl, sym, ap, ◌∙◌}
use mathlib.Core.List.{List, [], ◌∷◌, ◌++◌}
use Prim.Native.Nat.{ℕ, zero, suc, ◌+◌, ◌*◌, ◌≤◌, ◌<◌}
use native.Mathlib.Omega.{arith}
use native.Mathlib.Numerals.{add-one}
use native.Mathlib.Nat.{zero-add}
use lib.ListN.{length, take, set}
use lib.Seq.{take-suc-set, take_all}
use Rattle.text.specs.Text.{byte_at}
use Rattle.bits.specs.Bits.{bytes_for}
use Rattle.packing.specs.Packing.{bytes_from, packed_word}

-- the last byte of one more
pub bytes_more : (word : List ℕ) (i n : ℕ) → bytes_from word i (suc n) ≡ bytes_from word i n ++ (byte_at word (i + n * 8) ∷ [])
unfolding bytes_from
bytes_more word i zero = ap (λ (k : ℕ). byte_at word k ∷ []) (omega arith)
bytes_more word i (suc n) =
    ap (λ (l : List ℕ). byte_at word i ∷ l) (bytes_more word (i + 8) n ∙ ap (λ (k : ℕ). bytes_from word (i + 8) n ++ (byte_at word k ∷ [])) (omega arith))

pub pack_more : (word bytes : List ℕ) (i b : ℕ) → i < length bytes → b ≡ byte_at word (i * 8) → take i bytes ≡ bytes_from word 0 i
    → take (i + 1) (set bytes i b) ≡ bytes_from word 0 (i + 1)
pack_more word bytes i b h e so = rw (add-one, take-suc-set bytes i b h, bytes_more word 0 i, zero-add, e, so) refl

pub pack_done : (word bytes : List ℕ) (i : ℕ) → length bytes ≤ i → i ≤ length bytes → length bytes ≡ bytes_for (length word)
    → take i bytes ≡ bytes_from word 0 i → bytes ≡ packed_word word
unfolding packed_word
pack_done word bytes i h k e so = let end : i ≡ bytes_for (length word) = omega arith in sym (take_all i bytes h) ∙ so ∙ ap (bytes_from word 0) end
