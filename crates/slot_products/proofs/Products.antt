-- The products of a check's others, entry by entry down its column: a turn and the end of each loop. Assumes nothing.
use mathlib.Core.Path.{◌≡◌, refl, sym, ap}
use mathlib.Core.List.{List, [], ◌++◌}
use Prim.Native.Nat.{ℕ, ◌+◌, ◌*◌, ◌<◌, ◌≤◌}
use lib.Ieee.{Float, nan}
use lib.ListN.{length, take, drop, get_or, set, drop_of_length-le}
use Rattle.softmath.specs.Single.{◌⊗◌, one32, fold_from, product}
use Rattle.softmath.specs.CheckNode.{at_each}
use Rattle.softmath.proofs.LeaveOneOut.{carried_from, prefix-shared, fold_more}
use Rattle.lists.proofs.Loops.{place-more, place-done}
use Rattle.slots.specs.Columns.{column}
use Rattle.slots.proofs.Columns.{column-length}
use Rattle.slots.proofs.EachColumn.{entry_at, set_own}

module _ (m d c : ℕ) (w : List Float) where
  -- ---- one factor more

  pub factor-more : (r : Float) (j : ℕ) (p : Float) → j < d → fold_from ◌⊗◌ p (drop j (column m d c w)) ≡ r
      → fold_from ◌⊗◌ (p ⊗ get_or w (j * m + c) nan) (drop (j + 1) (column m d c w)) ≡ r
  factor-more r j p h k =
      let inside : j < length (column m d c w) = rw (column-length m d c w) h in
      rw (entry_at m d c j (j * m + c) w h refl) at (fold_more ◌⊗◌ (column m d c w) r j p inside k)

  pub factor-none : (r : Float) (j : ℕ) (p : Float) → d ≤ j → fold_from ◌⊗◌ p (drop j (column m d c w)) ≡ r → p ≡ r
  unfolding fold_from
  factor-none r j p h k =
      let size : length (column m d c w) ≤ j = rw (column-length m d c w) h in
      rw (drop_of_length-le (column m d c w) size) at k

  -- ---- one entry turned

  -- where nothing is turned yet
  pub turned_none : carried_from ◌⊗◌ one32 (column m d c w) ≡ at_each product (column m d c w)
  unfolding fold_from
  turned_none = sym (prefix-shared ◌⊗◌ one32 [] (column m d c w))

  pub turned_more : (r : List Float) (j p : ℕ) (s v : Float) → c < m → j < d → p ≡ j * m + c → p < length w
      → v ≡ fold_from ◌⊗◌ s (drop (j + 1) (column m d c w))
      → take j (column m d c w) ++ carried_from ◌⊗◌ s (drop j (column m d c w)) ≡ r
      → take (j + 1) (column m d c (set w p v)) ++ carried_from ◌⊗◌ (s ⊗ get_or w p nan) (drop (j + 1) (column m d c (set w p v))) ≡ r
  unfolding carried_from
  turned_more r j p s v h l e n q k =
      let inside : j < length (column m d c w) = rw (column-length m d c w) l in
      rw (set_own m d c j p v w h e l n)
      (place-more (carried_from ◌⊗◌) (λ (x : Float) (y : Float) (ys : List Float). fold_from ◌⊗◌ x ys) (λ (x : Float) (y : Float). x ⊗ y) (λ x y ys. refl)
      nan (column m d c w) r j s _ v inside q (ap (λ (x : Float). s ⊗ x) (sym (entry_at m d c j p w l e))) k)

  pub turned-done : (r : List Float) (j : ℕ) (s : Float) → d ≤ j → take j (column m d c w) ++ carried_from ◌⊗◌ s (drop j (column m d c w)) ≡ r
      → column m d c w ≡ r
  unfolding carried_from
  turned-done r j s h k =
      place-done (carried_from ◌⊗◌) (λ (x : Float) (y : Float) (ys : List Float). fold_from ◌⊗◌ x ys) (λ (x : Float) (y : Float). x ⊗ y) (λ x y ys. refl)
      nan (λ x. refl) (column m d c w) r j s (rw (column-length m d c w) h) k
