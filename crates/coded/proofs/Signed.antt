-- Signed answers: a local of i32 holds bits, and reading them back gives the number that was stored. Assumes nothing.
use mathlib.Core.Path.{◌≡◌, sym, ap, subst, ◌∙◌}
use Prim.Native.Nat.{ℕ, zero, suc, ◌<◌, ◌^◌}
use native.Mathlib.Omega.{arith}
use lib.IntN.{ℤ, pos, neg_ℤ, ◌-ℤ◌, +ℤ_idl}
use mir.Syntax.{w32}
use mir.Val.{to_z, of_z, SFits}
use mir.ValLaws.{to_z_pos, to_z-of_z}

-- a number of 31 bits as a signed one of 32
pub long_pos : (v : ℕ) → v < 2 ^ 31 → to_z w32 v ≡ pos v
long_pos v small = to_z_pos w32 v small

-- one of 16 bits
pub short_pos : (v : ℕ) → v < 2 ^ 16 → to_z w32 v ≡ pos v
short_pos v small = long_pos v (omega (arith, small))

minus_fits : (n : ℕ) → n < 2 ^ 16 → SFits w32 (neg_ℤ (pos n))
minus_fits zero small = record { sfits = omega arith }
minus_fits (suc n) small = record { sfits = omega (arith, small) }

minus : (n : ℕ) → n < 2 ^ 16 → pos 0 -ℤ to_z w32 n ≡ neg_ℤ (pos n)
minus n small = ap (λ (z : ℤ). pos 0 -ℤ z) (short_pos n small) ∙ +ℤ_idl (neg_ℤ (pos n))

-- such a number taken from 0 fits, and is read back as its negative
pub minus_short : (n : ℕ) → n < 2 ^ 16 → SFits w32 (pos 0 -ℤ to_z w32 n)
minus_short n small = subst (SFits w32) (sym (minus n small)) (minus_fits n small)

pub minus_read : (n : ℕ) → n < 2 ^ 16 → to_z w32 (of_z w32 (pos 0 -ℤ to_z w32 n)) ≡ neg_ℤ (pos n)
minus_read n small = to_z-of_z w32 _ (minus_short n small) ∙ minus n small

-- what is stored is read back
pub read_back_lem : {z : ℤ} → SFits w32 z → to_z w32 (of_z w32 z) ≡ z
read_back_lem {z} fits = to_z-of_z w32 z fits
