-- A call's answer by its two tests, the lengths and then one of the entries: by rewriting with what each test found. Assumes nothing.
use mathlib.Core.Path.{◌≡◌, refl}
use mathlib.Core.Bool.{Bool, true, false, not}
use mathlib.Core.List.{List, [], ◌∷◌}
use Prim.Native.Nat.{ℕ}
use lib.Dec.{eqb}
use borrow.Author.Tests.{eq-eqb, ne_eqb}
use Rattle.refusal.specs.Outcome.{Outcome, accepted, refused, Condition, ◌when◌, judged, kept}

-- 4 where the lengths a and b differ, then n where the test t holds
abbrev pub tests : ℕ → ℕ → ℕ → Bool → List Condition
tests a b n t = (4 when not (eqb a b)) ∷ (n when t) ∷ []

-- what a call owes: its answer, and what the lent memory holds
abbrev pub Owed : {A : Type 0} → List Condition → Outcome Unit → A → A → A → Type 0
Owed conditions answer out old new = (answer ≡ judged conditions tt) × (out ≡ kept conditions old new)

module _ {A : Type 0} (a b n : ℕ) (t : Bool) (old new : A) where
  pub lengths_differ : (a ≡ b → ⊥) → Owed (tests a b n t) (refused 4) old old new
  lengths_differ h = rw (ne_eqb a b h) (refl, refl)

  pub test-holds : a ≡ b → t ≡ true → Owed (tests a b n t) (refused n) old old new
  test-holds h k = rw (eq-eqb a b h, k) (refl, refl)

  pub written : (out : A) → a ≡ b → t ≡ false → out ≡ new → Owed (tests a b n t) (accepted tt) out old new
  written out h k e = rw (eq-eqb a b h, k) (refl, e)
