-- Each message column lies in three different rows of the M, for any K, any seed and at least three rows.
-- The search and the relaxed pick go through the rows below M alone; that the rows differ is `three_different`.
use mathlib.Core.Path.{◌≡◌, ◌∙◌}
use mathlib.Core.List.{List, [], ◌∷◌}
use Prim.Native.Nat.{ℕ, zero, suc, ◌%◌, ◌≤◌, ◌<◌}
use native.Mathlib.Nat.{mod-lt}
use native.Mathlib.Omega.{arith}
use lib.ListN.{length}
use Rattle.columns.specs.Rows.{times, sorted}
use Rattle.picking.specs.Picks.{search}
use Rattle.picking.proofs.Rows.{Each, each_append, each-sorted, settled-has, search-below, outside_below}
use Rattle.placing.specs.OnePick.{skipped, load, pick}
use Rattle.placing.proofs.Finished.{sorted-length}
use Rattle.construction.specs.Columns.{one_pick, picks, finished, next_column, made}
use Rattle.columns.proofs.Sorted.{times-sorted}
use Rattle.construction.proofs.Different.{three_different, different_once}

-- each of the rows is below m
unfoldable pub InRows : ℕ → List ℕ → Type 0
InRows m = Each (λ r. r < m)

module _ (m : ℕ) where
  pick-in : (cs : List (List ℕ)) (picked : List ℕ) (s : ℕ) → 0 < m → (pick m cs picked s).row < m
  unfolding pick
  pick-in cs picked s some =
      let low : s % m < m = mod-lt s some in
      settled-has (λ r. r < m) m picked (s % m) (search m (load cs) (skipped cs picked) (s % m))
      (λ r e. search-below m (load cs) (skipped cs picked) (s % m) r (omega arith) e) (outside_below picked m (s % m) low)

  picks-in : (t : ℕ) (cs : List (List ℕ)) (s : ℕ) → 0 < m → Each (λ r. r < m) (picks t m cs s).rows
  unfolding picks one_pick
  picks-in zero cs s some = tt
  picks-in (suc t) cs s some = each_append (λ r. r < m) (picks t m cs s).rows _ (picks-in t cs s some) (pick-in cs (picks t m cs s).rows _ some, tt)

-- columns whose rows are three, different and below m
pub data Regular (m : ℕ) : List (List ℕ) → Type 0 where
  none : Regular m []
  more : {c : List ℕ} {cs : List (List ℕ)} → length c ≡ 3 → ((r : ℕ) → times c r ≤ 1) → InRows m c → Regular m cs → Regular m (c ∷ cs)

-- "each message column in three different rows", for any K, any seed and at least three rows
pub columns_regular : (k m seed : ℕ) → 3 ≤ m → Regular m (made k m seed).columns
unfolding made next_column finished InRows
columns_regular zero m seed some = none
columns_regular (suc k) m seed some =
    let g = made k m seed in
    let p = (picks 3 m g.columns g.state).rows in
    let three = three_different m g.columns g.state some in
    let rows_in = each-sorted (λ r. r < m) p (picks-in m 3 g.columns g.state (omega arith)) in
    more {c = sorted p} (sorted-length p ∙ three.1) (λ r. rw (times-sorted p r) (different_once p r three.0)) rows_in (columns_regular k m seed some)
