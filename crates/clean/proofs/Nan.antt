-- A NaN, and nothing else, differs from itself: the test that the code made before the language had `is_nan`. By cases on the float. Assumes nothing.
use mathlib.Core.Path.{◌≡◌, refl, sym, subst, ◌∙◌}
use mathlib.Core.Bool.{true, false}
use lib.Dec.{T}
use lib.Ieee as Ieee
use lib.Ieee.{Float, is_nan, nan, inf, fin}
use lib.Ieee.Compare.{differs_from_itself, nan_differs}

nan-alone : (x : Float) → x ≡ nan → is_nan x ≡ true
unfolding is_nan
nan-alone x e = rw e

pub differs : (x : Float) → Ieee.ne x x ≡ true → is_nan x ≡ true
differs x d = nan-alone x (differs_from_itself x (subst T (sym d) tt))

pub same : (x : Float) → Ieee.ne x x ≡ false → is_nan x ≡ false
unfolding is_nan
same nan d = sym nan_differs ∙ d
same (inf s) d = refl
same (fin s m e) d = refl
