-- The program's input (document 01, "The program"): "at most 65,536 bytes, little-endian: code, rule (a byte each), limit (u16), scale (f32 bits),
-- pair count (u16), two zero bytes; then pairs of u32; then f32 values to the end."
use Rattle.std.specs.Prelude.{Bool, not, ◌||◌, List, [], ◌∷◌, ℕ, zero, suc, ◌+◌, ◌-◌, ◌*◌, ◌/◌, ◌%◌, eqb, ltb, Float, length, get_or}
use Rattle.std.specs.Float.{binary32}
use Rattle.std.specs.Float.Ieee.{of_bits}

-- ---- little-endian numbers

abbrev pub u16_at : List ℕ → ℕ → ℕ
u16_at s i = get_or s i 0 + 256 * get_or s (i + 1) 0

abbrev pub u32_at : List ℕ → ℕ → ℕ
u32_at s i = u16_at s i + 65536 * u16_at s (i + 2)

-- n of them, one after the other, each read by f
unfoldable pub u32s_from : {A : Type 0} → (ℕ → A) → List ℕ → ℕ → ℕ → List A
u32s_from f s i zero = []
u32s_from f s i (suc n) = f (u32_at s i) ∷ u32s_from f s (i + 4) n

-- ---- the header

abbrev pub code_of : List ℕ → ℕ
code_of s = get_or s 0 0

abbrev pub rule_of : List ℕ → ℕ
rule_of s = get_or s 1 0

abbrev pub limit_of : List ℕ → ℕ
limit_of s = u16_at s 2

-- bits of a NaN are NaN, whatever its payload
unfoldable pub float_of : ℕ → Float
float_of bits = of_bits binary32 bits

abbrev pub scale_of : List ℕ → Float
scale_of s = float_of (u32_at s 4)

abbrev pub pair_count : List ℕ → ℕ
pair_count s = u16_at s 8

-- the bytes of the header and the pairs, eight a pair
abbrev pub values_start : List ℕ → ℕ
values_start s = 12 + 8 * pair_count s

-- ---- what follows it

-- offset, length, offset, length ..
unfoldable pub pair_numbers : List ℕ → List ℕ
pair_numbers s = u32s_from (λ w. w) s 12 (2 * pair_count s)

abbrev pub value_count : List ℕ → ℕ
value_count s = (length s - values_start s) / 4

unfoldable pub values_of : List ℕ → List Float
values_of s = u32s_from float_of s (values_start s) (value_count s)

-- ---- refusal 13

-- "Malformed is: too long, a cut header, pair or value, or a nonzero filler byte."
unfoldable pub malformed : List ℕ → Bool
malformed s =
    ltb 65536 (length s)
    || ltb (length s) 12
    || not (eqb (get_or s 10 0) 0)
    || not (eqb (get_or s 11 0) 0)
    || ltb (length s) (values_start s)
    || not (eqb ((length s - values_start s) % 4) 0)
