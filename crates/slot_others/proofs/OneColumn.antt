-- The second engine over a work area by slots: a check's column is taken out, answered, and put back. Assumes nothing.
use mathlib.Core.Path.{◌≡◌, refl, sym, ap, subst, ◌∙◌}
use mathlib.Core.List.{List}
use Prim.Native.Nat.{ℕ, ◌+◌, ◌*◌, ◌<◌, ◌≤◌}
use lib.Ieee.{Float, nan}
use lib.ListN.{length, take, get_or, set}
use Rattle.softmath.specs.CheckNode.{min_sum}
use Rattle.by_others.specs.Others.{others_answer, others_sum}
use Rattle.softmath.proofs.Steps.{each-length}
use Rattle.by_others.proofs.ByOthers.{same-answers}
use Rattle.lists.proofs.Loops.{fill_more, fill_done}
use Rattle.slots.specs.Columns.{column, AtColumns, ColumnIs}
use Rattle.slots.proofs.Columns.{column-length}
use Rattle.slots.proofs.EachColumn.{entry_at, set_own}

-- ---- a column taken out, entry by entry

pub taken_more : (m d c j : ℕ) (w r : List Float) → j < d → j < length r → take j r ≡ take j (column m d c w)
    → take (j + 1) (set r j (get_or w (j * m + c) nan)) ≡ take (j + 1) (column m d c w)
taken_more m d c j w r h k t =
    let inside : j < length (column m d c w) = rw (column-length m d c w) h in
    fill_more (column m d c w) nan r j (get_or w (j * m + c) nan) inside k (sym (entry_at m d c j (j * m + c) w h refl)) t

pub taken_all : (m d c j : ℕ) (w r : List Float) → d ≤ j → length r ≤ j → take j r ≡ take j (column m d c w) → r ≡ column m d c w
taken_all m d c j w r h k t = fill_done (column m d c w) nan r j (rw (column-length m d c w) h) k t

-- ---- put back, entry by entry

module _ (m c : ℕ) (answers w : List Float) (h : c < m) where
  pub put-more : (j : ℕ) → j < length answers → j * m + c < length w → take j (column m (length answers) c w) ≡ take j answers
      → take (j + 1) (column m (length answers) c (set w (j * m + c) (get_or answers j nan))) ≡ take (j + 1) answers
  put-more j l n t =
      let d = length answers in
      let inside : j < length (column m d c w) = rw (column-length m d c w) l in
      rw (set_own m d c j (j * m + c) (get_or answers j nan) w h refl l n) (fill_more answers nan (column m d c w) j (get_or answers j nan) l inside refl t)

  pub put-done : (j : ℕ) → length answers ≤ j → take j (column m (length answers) c w) ≡ take j answers → column m (length answers) c w ≡ answers
  put-done j l t = fill_done answers nan (column m (length answers) c w) j l (rw (column-length m (length answers) c w) l) t

others-length : (scale : Float) (ms : List Float) → length (others_sum scale ms) ≡ length ms
unfolding others_sum
others-length scale ms = each-length (others_answer scale) ms

-- as many answers as messages
pub answers-size : (s : Float) (ms answers : List Float) → answers ≡ others_sum s ms → length answers ≡ length ms
answers-size s ms answers q = ap length q ∙ others-length s ms

-- the column that was put holds the answers to the messages
pub answers-put : (m c : ℕ) (s t : Float) (ms answers w v : List Float) → s ≡ t → answers ≡ others_sum s ms → ColumnIs m (length answers) c answers w v
    → ColumnIs m (length ms) c (others_sum t ms) w v
answers-put m c s t ms answers w v e q k =
    let same : answers ≡ others_sum t ms = q ∙ ap (λ (x : Float). others_sum x ms) e in
    subst (λ (d : ℕ). ColumnIs m d c (others_sum t ms) w v) (others-length t ms) (subst (λ (xs : List Float). ColumnIs m (length xs) c xs w v) same k)

-- both engines answer each column alike
pub engines_same : (scale : Float) (m d : ℕ) (w v : List Float) → AtColumns (others_sum scale) m d w v → AtColumns (min_sum scale) m d w v
engines_same scale m d w v at = record { size = at.size; columns = λ c h. at.columns c h ∙ sym (same-answers scale (column m d c w)) }
