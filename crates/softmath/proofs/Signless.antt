-- The value without its sign, by one comparison: above zero it is the value, and otherwise 0.0 less the value, which rounds nothing and makes both zeros
-- 0.0. By cases. Assumes nothing.
use mathlib.Core.Path.{◌≡◌, refl}
use mathlib.Core.Bool.{Bool, true, false, not}
use Prim.Native.Nat.{ℕ, zero, suc, ◌*◌}
use native.Mathlib.Nat.{mul-one, one-mul, zero-mul, zero-add}
use native.Mathlib.Omega.{arith}
use lib.Dec.{T}
use lib.IntN.{ℤ, pos}
use lib.Ieee.{Float, nan, inf, fin, binary32, up, down, fits, sum, add, sub, neg, lt, of_bits}
use lib.Ieee.Bits.{is_true}
use borrow.Author.Tests.{ltb-false}
use Rattle.softmath.specs.Single.{◌⊖◌, zero32}
use Rattle.softmath.specs.Functions.{magnitude_of}
use Rattle.softmath.proofs.Floats.{zero_exponent, fits-unsigned}
use Rattle.softmath.proofs.Unrounded.{round_itself}
use Rattle.softmath.proofs.ZeroStart.{some, zeros_add}

pub above_zero : (x : Float) → lt zero32 x ≡ true → x ≡ magnitude_of x
unfolding lt magnitude_of of_bits
above_zero nan h = refl
above_zero (inf true) h = cc
above_zero (inf false) h = refl
above_zero (fin true m e) h = cc
above_zero (fin false m e) h = refl

-- 0.0 less a zero of either sign
less_zero : (s : Bool) (e : ℤ) → e ≡ pos 0 → zero32 ⊖ fin s zero e ≡ fin false zero e
unfolding sub neg of_bits
less_zero s e z = rw z (zeros_add false (not s) (pos 0) (pos 0))

-- 0.0 less a negative value
less_negative : (m : ℕ) (e : ℤ) → T (fits binary32 (fin false (suc m) e)) → zero32 ⊖ fin true (suc m) e ≡ fin false (suc m) e
unfolding sub add neg sum of_bits
less_negative m e h = rw (zero-mul (down e), zero-add, mul-one (suc m * up e), one-mul (down e)) (round_itself binary32 false m e h)

pub not-above : (x : Float) → T (fits binary32 x) → lt zero32 x ≡ false → zero32 ⊖ x ≡ magnitude_of x
unfolding lt sub add neg magnitude_of of_bits
not-above nan g h = refl
not-above (inf true) g h = refl
not-above (inf false) g h = cc
not-above (fin s zero e) g h = less_zero s e (zero_exponent s e (is_true _ g))
not-above (fin true (suc m) e) g h = less_negative m e (fits-unsigned true (suc m) e g)
not-above (fin false (suc m) e) g h = absurd (omega (arith, ltb-false (0 * 1 * down e) (suc m * up e * 1) h, zero-mul (down e), some m e))
