-- A column whose three rows stand in the table, sorted and counted. The flat table is cut where the column lies.
use mathlib.Core.Path.{◌≡◌, refl, ap, ◌∙◌}
use mathlib.Core.List.{List, [], ◌∷◌, ◌++◌}
use Prim.Native.Nat.{ℕ, zero, suc, ◌+◌, ◌-◌, ◌*◌, ◌≤◌, ◌<◌}
use native.Mathlib.Omega.{arith}
use borrow.Rule.Slice.PartMut.{put_mid}
use lib.Dec.{leb}
use lib.ListN.{length, take, drop, replicate, length-take, length-drop, length-replicate}
use lib.Seq.{take_at, drop_at, take-add, length-take-le}
use Rattle.columns.specs.Rows.{insert, sorted}
use Rattle.columns.specs.Tables.{column_at, columns_in, Loaded, Room}
use Rattle.lists.specs.Below.{Below}
use Rattle.columns.proofs.Columns.{times-le}
use Rattle.picking.proofs.Rows.{either, Each, each_append, each_left, each_right, each-sorted, each_all, all-each}
use Rattle.placing.specs.OnePick.{load}
use Rattle.placing.specs.Tables.{Loads, Begun, Finished}
use Rattle.placing.proofs.Picks.{columns-same}

-- ---- sorting keeps the length
insert-length : (r : ℕ) (l : List ℕ) → length (insert r l) ≡ suc (length l)
unfolding insert
insert-length r [] = refl
insert-length r (q ∷ qs) = either (λ (l : List ℕ). length l ≡ suc (suc (length qs))) (leb r q) refl (ap suc (insert-length r qs))

pub sorted-length : (l : List ℕ) → length (sorted l) ≡ length l
unfolding sorted
sorted-length [] = refl
sorted-length (r ∷ rs) = insert-length r (sorted rs) ∙ ap suc (sorted-length rs)

-- ---- the loads leave room
load-le : (rows : List ℕ) (n r : ℕ) → load (columns_in rows n) r ≤ 3 * n
unfolding load columns_in column_at
load-le rows zero r = omega arith
load-le rows (suc n) r =
    let c = take 3 (drop (3 * n) rows) in
    let s : length c ≤ 3 = simp length-take (omega arith) in
    omega (arith, load-le rows n r, times-le c r)

-- ---- a column that is put in its place
module _ {m n : ℕ} {rows loads marks : List ℕ} (b : Begun m n 3 rows loads marks) (v : List ℕ)
    (same : v ≡ sorted (take (3 * n + 3 - 3 * n) (drop (3 * n) rows))) where
  three : 3 * n + 3 - 3 * n ≡ 3
  three = omega arith

  -- the table with the sorted column in it
  abbrev whole : List ℕ
  whole = put_mid (3 * n) (3 * n + 3 - 3 * n) rows v

  v-is : v ≡ sorted (column_at rows n)
  unfolding column_at
  v-is = rw three at same

  v-size : length v ≡ 3
  unfolding column_at
  v-size = ap length v-is ∙ sorted-length (column_at rows n) ∙ length-take-le 3 (drop (3 * n) rows) (simp length-drop (omega (arith, b.room)))

  front : length (take (3 * n) rows) ≡ 3 * n
  front = length-take-le (3 * n) rows (omega (arith, b.room))

  whole-cut : take 3 (drop (3 * n) whole) ≡ v
  whole-cut = rw (drop_at (take (3 * n) rows) (v ++ drop (3 * n + 3 - 3 * n) (drop (3 * n) rows)) (3 * n) front) (take_at v _ 3 v-size)

  whole-earlier : take (3 * n) whole ≡ take (3 * n) rows
  whole-earlier = take_at (take (3 * n) rows) _ (3 * n) front

  whole-columns : columns_in whole (suc n) ≡ v ∷ columns_in rows n
  unfolding columns_in column_at
  whole-columns = rw whole-cut (ap (λ (cs : List (List ℕ)). v ∷ cs) (columns-same n whole rows whole-earlier))

  rows-each : Each (λ r. r < m) (take (3 * n) rows ++ take 3 (drop (3 * n) rows))
  rows-each = rw (take-add (3 * n) 3 rows) at (all-each m _ b.below)

  v-each : Each (λ r. r < m) v
  v-each = rw (same, three) (each-sorted (λ r. r < m) _ (each_right (λ r. r < m) (take (3 * n) rows) _ rows-each))

  whole_each : Each (λ r. r < m) (take (3 * n) rows ++ v)
  whole_each = each_append (λ r. r < m) (take (3 * n) rows) v (each_left (λ r. r < m) (take (3 * n) rows) _ rows-each) v-each

  pub v_below : Below m v
  v_below = each_all m v v-each

  pub room : Room (length v) loads
  unfolding Room Loads
  room r h = omega (arith, b.ready.right r h, load-le rows n r, v-size, b.few)

  pub finished-column : {loads' : List ℕ} → Loaded v loads loads' → length loads' ≡ length loads
      → Finished m n (column_at rows n) rows whole loads' (replicate (length marks) 0)
  unfolding Loads Loaded load
  finished-column count size = record {
    columns = whole-columns ∙ ap (λ (c : List ℕ). c ∷ columns_in rows n) v-is;
    ready = record {
      some = b.ready.some;
      narrow = b.ready.narrow;
      rows_are = size ∙ b.ready.rows_are;
      flags_are = length-replicate (length marks) 0 ∙ b.ready.flags_are;
      right = λ r h. rw whole-columns (count r (omega arith) ∙ rw (b.ready.right r (omega arith)));
    };
    below =
        let e : 3 * suc n ≡ 3 * n + 3 = omega arith in
        rw (e, take-add (3 * n) 3 whole, whole-earlier, whole-cut) (each_all m _ whole_each);
    clear = ap (λ (k : ℕ). replicate k 0) b.ready.flags_are;
  }
