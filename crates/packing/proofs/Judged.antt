-- A call's answer by its one test: by rewriting with what the test found. Assumes nothing.
use mathlib.Core.Path.{◌≡◌, refl}
use mathlib.Core.Bool.{Bool, true, false}
use mathlib.Core.List.{List, [], ◌∷◌}
use Prim.Native.Nat.{ℕ}
use Rattle.refusal.specs.Outcome.{Outcome, accepted, refused, ◌when◌, judged, kept}

-- what a call owes: its answer, and what the lent memory holds
abbrev pub Owed : ℕ → Bool → Outcome Unit → List ℕ → List ℕ → List ℕ → Type 0
Owed n t answer out old new = (answer ≡ judged ((n when t) ∷ []) tt) × (out ≡ kept ((n when t) ∷ []) old new)

pub turned_down : (n : ℕ) (t : Bool) (old new : List ℕ) → t ≡ true → Owed n t (refused n) old old new
turned_down n t old new h = rw h (refl, refl)

pub written : (n : ℕ) (t : Bool) (out old new : List ℕ) → t ≡ false → out ≡ new → Owed n t (accepted tt) out old new
written n t out old new h e = rw h (refl, e)
