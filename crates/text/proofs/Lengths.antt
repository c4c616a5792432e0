-- The lengths of texts, as sums over their parts, and their bounds: a number has at most five digits. Assumes nothing.
use mathlib.Core.Path.{◌≡◌, refl}
use mathlib.Core.Bool.{Bool, true, false, cond}
use mathlib.Core.List.{List, [], ◌∷◌}
use Prim.Native.Nat.{ℕ, zero, suc, ◌+◌, ◌*◌, ◌/◌, ◌≤◌}
use native.Mathlib.Omega.{arith}
use lib.Dec.{ltb, lit≤}
use lib.ListN.{length, length-append}
use Rattle.text.specs.Text.{leading, decimal, hex_from, hex, refused_word, field, refusal_line}

pub decimal-length : (n : ℕ)
    → length (decimal n) ≡ length (leading 10000 n) + (length (leading 1000 n) + (length (leading 100 n) + (length (leading 10 n) + 1)))
unfolding decimal
decimal-length n = simp length-append

pub field-length : (word : List ℕ) (n : ℕ) → length (field word n) ≡ length word + length (decimal n)
unfolding field
field-length word n = length-append word (decimal n)

one_or_none : (b : Bool) (x : ℕ) → length (cond b [] (x ∷ [])) ≤ 1
one_or_none true x = lit≤ tt
one_or_none false x = lit≤ tt

pub leading_short : (p n : ℕ) → length (leading p n) ≤ 1
unfolding leading
leading_short p n = one_or_none (ltb n p) _

pub decimal_short : (n : ℕ) → length (decimal n) ≤ 5
decimal_short n = omega (arith, decimal-length n, leading_short 10000 n, leading_short 1000 n, leading_short 100 n, leading_short 10 n)

hex-from-length : (bits : List ℕ) (i n : ℕ) → length (hex_from bits i n) ≡ 2 * n
unfolding hex_from
hex-from-length bits i zero = refl
hex-from-length bits i (suc n) =
    let e = hex-from-length bits (i + 8) n in
    omega arith

pub hex-length : (bits : List ℕ) → length (hex bits) ≡ 2 * ((length bits + 7) / 8)
unfolding hex
hex-length bits = hex-from-length bits 0 ((length bits + 7) / 8)

pub refusal_length : (number : ℕ) → length (refusal_line number) ≡ length (field refused_word number) + 1
unfolding refusal_line
refusal_length number = simp length-append

pub refusal_short : (number : ℕ) → length (refusal_line number) ≤ 14
refusal_short number = omega (arith, refusal_length number, field-length refused_word number, decimal_short number)
