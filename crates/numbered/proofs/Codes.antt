-- The size and the checks of a staircase code by its number: by cases. Assumes nothing.
use mathlib.Core.Path.{◌≡◌, refl}
use Prim.Native.Nat.{ℕ, zero, suc, ◌<◌}
use native.Mathlib.Omega.{arith}
use Rattle.construction.specs.Codes.{Code, block_length}
use Rattle.staircase.specs.Codes.{code_of, checks}
use Rattle.numbered.specs.Codes.{by_code, size_n, checks_by}

stair_by : {A : Type 0} (code : ℕ) (f : Code → A) (a : A) → code < 3 → by_code code f a ≡ f (code_of code)
stair_by zero f a h = refl
stair_by (suc zero) f a h = refl
stair_by (suc (suc zero)) f a h = refl
stair_by (suc (suc (suc n))) f a h = absurd (omega arith)

pub stair_size : (code : ℕ) → code < 3 → size_n code ≡ block_length (code_of code)
unfolding size_n
stair_size code h = stair_by code _ _ h

pub stair_checks : (code : ℕ) → code < 3 → checks_by code ≡ checks (code_of code)
unfolding checks_by
stair_checks code h = stair_by code _ _ h
