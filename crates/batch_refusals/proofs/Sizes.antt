-- The sizes of the codes by number, case by case. Assumes nothing.
use mathlib.Core.Path.{◌≡◌, refl}
use Prim.Native.Nat.{ℕ, zero, suc, ◌*◌, ◌<◌, ◌≤◌}
use native.Mathlib.Nat.{mul-le-mul}
use native.Mathlib.Omega.{arith}
use Rattle.construction.specs.Codes.{block_length}
use Rattle.staircase.specs.Codes.{code_of}
use Rattle.numbered.specs.Codes.{size_n, size_k}

pub values_ft8 : (n : ℕ) → 2 < n → 174 ≡ size_n n
unfolding size_n
values_ft8 zero h = absurd (omega arith)
values_ft8 (suc zero) h = absurd (omega arith)
values_ft8 (suc (suc zero)) h = absurd (omega arith)
values_ft8 (suc (suc (suc n))) h = refl

pub bits_ft8 : (n : ℕ) → 2 < n → 91 ≡ size_k n
unfolding size_k
bits_ft8 zero h = absurd (omega arith)
bits_ft8 (suc zero) h = absurd (omega arith)
bits_ft8 (suc (suc zero)) h = absurd (omega arith)
bits_ft8 (suc (suc (suc n))) h = refl

pub values_staircase : (n : ℕ) → n ≤ 2 → block_length (code_of n) ≡ size_n n
unfolding size_n
values_staircase zero h = refl
values_staircase (suc zero) h = refl
values_staircase (suc (suc zero)) h = refl
values_staircase (suc (suc (suc n))) h = absurd (omega arith)

pub bits-staircase : (n : ℕ) → n ≤ 2 → (code_of n).k ≡ size_k n
unfolding size_k
bits-staircase zero h = refl
bits-staircase (suc zero) h = refl
bits-staircase (suc (suc zero)) h = refl
bits-staircase (suc (suc (suc n))) h = absurd (omega arith)

-- K is at most N, and both are small
pub record Small (n : ℕ) : Type 0 where
  pub bits : size_k n ≤ 384
  pub values : size_n n ≤ 576
  pub front : size_k n ≤ size_n n

pub size_small : (n : ℕ) → Small n
unfolding size_n size_k
size_small zero = record { bits = omega arith; values = omega arith; front = omega arith }
size_small (suc zero) = record { bits = omega arith; values = omega arith; front = omega arith }
size_small (suc (suc zero)) = record { bits = omega arith; values = omega arith; front = omega arith }
size_small (suc (suc (suc n))) = record { bits = omega arith; values = omega arith; front = omega arith }

pub product_small : (pairs code : ℕ) → pairs ≤ 24 → pairs * size_k code ≤ 9216
product_small pairs code h = mul-le-mul h (size_small code).bits
