-- One soft value (change request N10): the other maker's signed byte, in eighths, and our f32 of it.
use Rattle.std.specs.Prelude.{ℕ, ◌*◌, ◌/◌, ◌%◌, Bool, false, cond, not, ◌&&◌, ℤ, pos, negsuc, neg_ℤ, ◌==◌, from_bits, nat_le, Float}
use Rattle.std.specs.Float.{nan, inf, fin, binary32}
use Rattle.std.specs.Float.Ieee.{up, down, neg, mul, of_int}
use Rattle.softmath.specs.Single.{zero32}

-- 0.125
abbrev pub eighth32 : Float
eighth32 = from_bits binary32 0x3e000000

-- 8.0
abbrev pub eight32 : Float
eight32 = from_bits binary32 0x41000000

-- ---- a byte's value

abbrev pub is_zero : ℤ → Bool
is_zero (pos n) = n == 0
is_zero (negsuc n) = false

-- -128, the one signed byte that is no value
abbrev pub is_least : ℤ → Bool
is_least (pos n) = false
is_least (negsuc n) = n == 127

-- "byte times 0.125": the byte as a float, and one rounded product
abbrev pub times_eighth : ℤ → Float
times_eighth b = mul binary32 (of_int binary32 b) eighth32

-- "negated for the positive-is-1 models; byte 0 becomes +0.0 for both"
unfoldable pub value_of : Bool → ℤ → Float
value_of positive_is_one b = cond (is_zero b) zero32 (cond positive_is_one (neg (times_eighth b)) (times_eighth b))

-- ---- a value's byte. A finite float is m * 2 ^ e, and 2 ^ e is the fraction up e / down e: eight times it is m * up e * 8 over down e, unrounded

-- "eight times it is a whole number from -127 to 127"
unfoldable pub whole_eighths : Float → Bool
whole_eighths nan = false
whole_eighths (inf s) = false
whole_eighths (fin s m e) = m * up e * 8 % down e == 0 && nat_le (m * up e * 8 / down e) 127

-- -0.0
unfoldable pub minus_zero : Float → Bool
minus_zero nan = false
minus_zero (inf s) = false
minus_zero (fin s m e) = s && m == 0

-- "a value passes exactly if eight times it is a whole number from -127 to 127 and it is not -0.0"
unfoldable pub passes : Float → Bool
passes v = whole_eighths v && not (minus_zero v)

-- n, or minus n
abbrev pub signed : Bool → ℕ → ℤ
signed s n = cond s (neg_ℤ (pos n)) (pos n)

-- eight times a value that passes
unfoldable pub eight_times : Float → ℤ
eight_times nan = pos 0
eight_times (inf s) = pos 0
eight_times (fin s m e) = signed s (m * up e * 8 / down e)

-- the byte of a value that passes
unfoldable pub byte_of : Bool → Float → ℤ
byte_of positive_is_one v = cond positive_is_one (neg_ℤ (eight_times v)) (eight_times v)
