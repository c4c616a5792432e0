-- Laws of floats that several crates need: a sign beside a positive one, what fits, and that f32 holds a product. Assumes nothing.
use mathlib.Core.Path.{◌≡◌, refl}
use mathlib.Core.Bool.{Bool, true, false}
use mathlib.Core.List.{List, [], ◌∷◌}
use Prim.Native.Nat.{ℕ, zero, suc, ◌*◌, ◌^◌}
use native.Mathlib.Nat.{pow-suc}
use native.Mathlib.Omega.{arith}
use lib.Dec.{T}
use lib.Pow.{pow_pos}
use lib.IntN.{ℤ, pos, negsuc}
use lib.Ieee.{Float, fin, binary32, unlike, fits}
use lib.Ieee.Fits.{mul-fits}
use borrow.Author.Tests.{eqb-true}
use Rattle.softmath.specs.Single.{◌⊗◌, fold_from}

pub unlike-false : (s : Bool) → unlike s false ≡ s
unlike-false true = refl
unlike-false false = refl

-- a zero that fits has exponent 0
pub zero_exponent : (s : Bool) (e : ℤ) → fits binary32 (fin s zero e) ≡ true → e ≡ pos 0
unfolding fits
zero_exponent s (pos zero) h = refl
zero_exponent s (pos (suc k)) h = absurd (omega (arith, eqb-true (2 ^ suc k * 1) 1 h, pow-suc 2 k, pow_pos k))
zero_exponent s (negsuc k) h = absurd (omega (arith, eqb-true (1 * 2 ^ suc k) 1 h, pow-suc 2 k, pow_pos k))

-- what fits does so without its sign
pub fits-unsigned : (s : Bool) (m : ℕ) (e : ℤ) → T (fits binary32 (fin s m e)) → T (fits binary32 (fin false m e))
unfolding fits
fits-unsigned s zero e h = h
fits-unsigned s (suc m) e h = h

-- f32 holds a product that is started from what it holds
pub fold_fits : (s : Float) (xs : List Float) → T (fits binary32 s) → T (fits binary32 (fold_from ◌⊗◌ s xs))
unfolding fold_from
fold_fits s [] h = h
fold_fits s (x ∷ xs) h = fold_fits (s ⊗ x) xs (mul-fits binary32 s x)
