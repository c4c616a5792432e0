-- A test of each entry of a list: what `any` answers, and what holds where it fails. By induction over the list.
use Rattle.std.proofs.Common.{◌≡◌, ℕ, zero, suc, ◌<◌, Bool, true, false, not, ◌||◌, List, [], ◌∷◌, length, get_or, refl, ap, arith}
use mathlib.Mathlib.Data.Bool.Basic.{or-eq-false-eq-eq-false-and-eq-false as or-is-false}
use lib.Ieee.{Float, nan}
use borrow.Author.Tests.{not-false}
use Rattle.std.specs.List.{list_any}
use Rattle.soft_bytes.specs.Values.{passes}
use Rattle.eighths.specs.Calls.{some}

-- ---- a test of each entry

-- `any` of the library goes through a list as the definition does
pub any-some : {A : Type 0} (test : A → Bool) (l : List A) → list_any test l ≡ some test l
unfolding some
any-some test [] = refl
any-some test (x ∷ xs) = ap (λ (b : Bool). test x || b) (any-some test xs)

module _ {A : Type 0} (test : A → Bool) (d : A) where
  -- where it holds of none, it does not hold of the one at i
  pub none-at : (l : List A) (i : ℕ) → some test l ≡ false → i < length l → test (get_or l i d) ≡ false
  unfolding some
  none-at [] i e h = absurd (omega arith)
  none-at (x ∷ xs) zero e h = ((or-is-false (test x) (some test xs)).0 e).0
  none-at (x ∷ xs) (suc i) e h = none-at xs i ((or-is-false (test x) (some test xs)).0 e).1 (omega arith)

-- ---- the values of a list of which none fails

pub pass_at : (l : List Float) (i : ℕ) → some (λ v. not (passes v)) l ≡ false → i < length l → passes (get_or l i nan) ≡ true
pass_at l i e h = not-false (passes (get_or l i nan)) (none-at (λ v. not (passes v)) nan l i e h)
