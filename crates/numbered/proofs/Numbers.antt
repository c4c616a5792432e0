-- A code's number is one of four, and of a staircase code one of three: by cases. Assumes nothing.
use mathlib.Core.Path.{◌≡◌, refl}
use Prim.Native.Nat.{ℕ, ◌<◌, ◌≤◌}
use native.Mathlib.Omega.{arith}
use Rattle.numbered.specs.declared.Code.{Code}
use Rattle.numbered.specs.declared.Code.TheVariants.{N512R12, N576R23, N512R34, Ft8}
use Rattle.numbered.specs.Numbers.{code_number}

pub below_four : (code : Code) → code_number code < 4
below_four N512R12 = omega arith
below_four N576R23 = omega arith
below_four N512R34 = omega arith
below_four Ft8 = omega arith

pub known_number : (code : Code) (n : ℕ) → code_number code ≡ n → n ≤ 3
known_number code n e = omega (arith, below_four code)

pub stair_number : (code : Code) → (code ≡ Ft8 → ⊥) → code_number code < 3
stair_number N512R12 h = omega arith
stair_number N576R23 h = omega arith
stair_number N512R34 h = omega arith
stair_number Ft8 h = absurd (h refl)
