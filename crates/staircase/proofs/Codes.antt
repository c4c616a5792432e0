-- The codes by number: by cases of the number. Assumes nothing.
use mathlib.Core.Path.{◌≡◌, refl}
use Prim.Native.Nat.{ℕ, zero, suc}
use Rattle.construction.specs.Codes.{n512r34}
use Rattle.staircase.specs.Codes.{code_of}

-- any number above 1 is code 2
pub last_of : (n : ℕ) → (n ≡ 0 → ⊥) → (n ≡ 1 → ⊥) → code_of n ≡ n512r34
last_of zero g h = absurd (g refl)
last_of (suc zero) g h = absurd (h refl)
last_of (suc (suc n)) g h = refl
