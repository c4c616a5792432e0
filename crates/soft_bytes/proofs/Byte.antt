-- A signed byte and its bits: which are those of 0 and of -128, and that a value's byte and its negative are in range. By cases on the sign. Assumes nothing.
use Rattle.std.proofs.Common.{◌≡◌, ℕ, zero, suc, ◌-◌, ◌≤◌, Bool, true, false, not, ℤ, pos, negsuc, ◌-ℤ◌, neg_ℤ, sym, refl, ap, ◌∙◌, subst, arith, w8, SFits}
use Rattle.std.proofs.Common.{to_z, of_z, eq-eqb, ne_eqb}
use lib.IntN.{+ℤ_idl}
use lib.Ieee.{Float, binary32, mul, to_signed}
use mir.ValLaws.{to_z-of_z}
use Rattle.soft_bytes.specs.Values.{eight32, is_zero, is_least, passes, signed, eight_times, byte_of}
use Rattle.soft_bytes.proofs.Value.{sign, count, passing, eighths_whole, cast}

pub zero_bits : (b : ℤ) → SFits w8 b → of_z w8 b ≡ 0 → is_zero b ≡ true
zero_bits (pos n) f e = eq-eqb n 0 e
zero_bits (negsuc n) f e = let k = f.sfits in absurd (omega arith)

pub nonzero-bits : (b : ℤ) → (of_z w8 b ≡ 0 → ⊥) → is_zero b ≡ false
nonzero-bits (pos n) e = ne_eqb n 0 e
nonzero-bits (negsuc n) e = refl

pub least_bits : (b : ℤ) → SFits w8 b → of_z w8 b ≡ 128 → is_least b ≡ true
least_bits (pos n) f e = let k = f.sfits in absurd (omega arith)
least_bits (negsuc n) f e = eq-eqb n 127 (let k = f.sfits in omega arith)

pub more_bits : (b : ℤ) → (of_z w8 b ≡ 128 → ⊥) → is_least b ≡ false
more_bits (pos n) e = refl
more_bits (negsuc n) e = ne_eqb n 127 (λ h. e (ap (λ (k : ℕ). 256 - suc k) h))

-- ---- a value's byte

pub turned : (s : Bool) (n : ℕ) → neg_ℤ (signed s n) ≡ signed (not s) n
turned true zero = refl
turned true (suc n) = refl
turned false n = refl

in_range : (s : Bool) (n : ℕ) → n ≤ 127 → SFits w8 (signed s n)
in_range true zero h = record { sfits = omega arith }
in_range true (suc n) h = record { sfits = omega arith }
in_range false n h = record { sfits = omega arith }

module _ (v : Float) (h : passes v ≡ true) where
  as-signed : eight_times v ≡ signed (sign v) (count v)
  as-signed = (eighths_whole v (sign v) (count v) (passing v h).eighths).1

  -- the cast, read back from its bits
  pub read_back_lem : to_z w8 (of_z w8 (to_signed 7 (mul binary32 v eight32))) ≡ eight_times v
  read_back_lem =
      ap (λ (z : ℤ). to_z w8 (of_z w8 z)) ((cast v h).1 ∙ as-signed)
      ∙ to_z-of_z w8 (signed (sign v) (count v)) (in_range (sign v) (count v) (passing v h).eighths.small) ∙ sym as-signed

  -- and its negative
  pub negative-is : pos 0 -ℤ eight_times v ≡ neg_ℤ (eight_times v)
  negative-is = +ℤ_idl (neg_ℤ (eight_times v))

  pub negative_fits : SFits w8 (pos 0 -ℤ eight_times v)
  negative_fits =
      subst (λ (z : ℤ). SFits w8 z) (sym (negative-is ∙ ap neg_ℤ as-signed ∙ turned (sign v) (count v)))
      (in_range (not (sign v)) (count v) (passing v h).eighths.small)

  pub byte_fits : (p : Bool) → SFits w8 (byte_of p v)
  unfolding byte_of
  byte_fits true = subst (λ (z : ℤ). SFits w8 z) negative-is negative_fits
  byte_fits false = subst (λ (z : ℤ). SFits w8 z) (sym as-signed) (in_range (sign v) (count v) (passing v h).eighths.small)
