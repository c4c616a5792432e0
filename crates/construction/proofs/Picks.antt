-- Three picks make a column: the state, the rows and the relaxed picks are the definition's, one pick more at a time.
use mathlib.Core.Path.{◌≡◌, refl}
use mathlib.Core.Bool.{Bool, true, false}
use mathlib.Core.List.{List}
use Prim.Native.Nat.{ℕ, ◌+◌, ◌*◌, ◌≤◌, ◌<◌}
use native.Mathlib.Nat.{zero-add}
use native.Mathlib.Numerals.{add-one}
use native.Mathlib.Omega.{arith}
use lib.ListN.{length, set, take, drop}
use Rattle.std.specs.Int.{from_bool}
use Rattle.xorshift.specs.Draw.{draw}
use Rattle.columns.specs.Tables.{columns_in}
use Rattle.placing.specs.OnePick.{pick}
use Rattle.placing.specs.Tables.{Begun, Placed}
use Rattle.placing.proofs.Picks.{columns-same, set-earlier, set-picked}
use Rattle.construction.specs.Columns.{one_pick, picks}

-- t picks of column n are made: the generator's state, the rows, and how many were relaxed are the definition's
pub record Picked (m n t state : ℕ) (rows : List ℕ) (state' relaxed : ℕ) (rows' : List ℕ) : Type 0 where
  pub earlier : take (3 * n) rows' ≡ take (3 * n) rows
  pub drawn : state' ≡ (picks t m (columns_in rows n) state).state
  pub relaxes : relaxed ≡ (picks t m (columns_in rows n) state).relaxed
  pub at_most : relaxed ≤ t
  pub picked : take t (drop (3 * n) rows') ≡ (picks t m (columns_in rows n) state).rows

picked_none : (m n state : ℕ) (rows : List ℕ) → Picked m n 0 state rows state 0 rows
unfolding picks
picked_none m n state rows = record { earlier = refl; drawn = refl; relaxes = refl; at_most = omega arith; picked = refl }

from_bool-le : (b : Bool) → from_bool b ≤ 1
from_bool-le true = omega arith
from_bool-le false = omega arith

picked_more : {m n t state : ℕ} {rows rows' rows'' loads marks' marks'' : List ℕ} {s s' x : ℕ} {b' : Bool} → t < 3 → Picked m n t state rows s x rows'
    → Begun m n t rows' loads marks' → s' ≡ draw s → Placed m n t s' rows' loads b' rows'' marks'' → Picked m n (t + 1) state rows s' (x + from_bool b') rows''
unfolding picks one_pick
picked_more {m} {n} {t} {state} {rows} {rows'} {rows''} {s = s} {s' = s'} {b' = b'} early p b d q =
    let cs : columns_in rows' n ≡ columns_in rows n = columns-same n rows' rows p.earlier in
    let fits : 3 * n + t < length rows' = omega (arith, b.room) in
    let c = pick m (columns_in rows n) (picks t m (columns_in rows n) state).rows (draw (picks t m (columns_in rows n) state).state) in
    let same : pick m (columns_in rows' n) (take t (drop (3 * n) rows')) s' ≡ c = rw (cs, p.picked, d, p.drawn) in
    let stored : rows'' ≡ set rows' (3 * n + t) c.row = rw same at q.stored in
    record {
      earlier = rw (stored, set-earlier n t c.row rows' fits) p.earlier;
      drawn = rw (add-one, d, p.drawn);
      relaxes = rw (add-one, q.relaxes, same, p.relaxes);
      at_most = omega (arith, p.at_most, from_bool-le b');
      picked = rw (stored, set-picked n t c.row rows' fits, p.picked, add-one);
    }

-- three picks, each at the draw after the one before
pub picked_three : {m n s s₁ s₂ s₃ : ℕ} {x₁ x₂ x₃ : Bool} {rows rows₁ rows₂ rows₃ loads marks marks₁ marks₂ marks₃ : List ℕ} → Begun m n 0 rows loads marks
    → (s₁ ≡ draw s) × Placed m n 0 s₁ rows loads x₁ rows₁ marks₁ → (s₂ ≡ draw s₁) × Placed m n 1 s₂ rows₁ loads x₂ rows₂ marks₂
    → (s₃ ≡ draw s₂) × Placed m n 2 s₃ rows₂ loads x₃ rows₃ marks₃
    → Picked m n 3 s rows s₃ (from_bool x₁ + from_bool x₂ + from_bool x₃) rows₃
picked_three {m} {n} {s} {s₁} {x₁ = x₁} {rows = rows} {rows₁} b one two three =
    let first : Picked m n 1 s rows s₁ (from_bool x₁) rows₁ =
    rw (zero-add (from_bool x₁)) at (picked_more (omega arith) (picked_none m n s rows) b one.0 one.1) in
    let second = picked_more (omega arith) first one.1.begun two.0 two.1 in
    picked_more (omega arith) second two.1.begun three.0 three.1
