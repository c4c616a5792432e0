-- The quick form of the construction gives the definition's columns: its marks are the rows that a pick skips, its list of loads holds the loads,
-- and its scan meets the same rows. Inductions over the columns, the rows and the lists.
use mathlib.Core.Path.{◌≡◌, refl, sym, ap, ◌∙◌}
use mathlib.Core.Bool.{Bool, true, false, cond, not, ◌&&◌, ◌||◌}
use mathlib.Core.List.{List, [], ◌∷◌}
use Prim.Native.Nat.{ℕ, zero, suc, ◌+◌, ◌%◌, ◌≤◌, ◌<◌}
use native.Mathlib.Nat.{mod-lt, zero-add, add-zero, add-suc, suc-add}
use native.Mathlib.Omega.{arith}
use lib.Dec.{ltb, eqb, eqb-suc-zero}
use lib.ListN.{length, get_or, set, take, drop, length-set, length-drop, length-replicate, get_or-replicate}
use lib.Seq.{get_or-take, get_or-drop, length-take-le}
use Rattle.xorshift.specs.Draw.{draw}
use Rattle.columns.specs.Rows.{holds, together, times}
use Rattle.columns.specs.Tables.{flag_at}
use Rattle.columns.proofs.Sorted.{times-sorted}
use Rattle.columns.proofs.Marks.{flag_set_at, load-set_at, or_swap}
use Rattle.std.specs.Prelude.{Some}
use Rattle.picking.specs.Picks.{least_of, search, settled, up_from}
use Rattle.picking.specs.Searches.{met_row, met_rows, load_at}
use Rattle.picking.proofs.Searches.{met-round}
use Rattle.placing.specs.OnePick.{skipped, load, pick}
use Rattle.placing.specs.Tables.{Loads}
use Rattle.placing.proofs.Picks.{search-same}
use Rattle.construction.specs.Columns.{Made, one_pick, picks, finished, next_column, made}
use Rattle.construction.specs.Quick.{marked, marked_if, marked_by, marks_of, Best, best, none, less_of, met, scan, found_in, quick_search, quick_pick, loaded}
use Rattle.construction.specs.Quick.{Kept, quick_one_pick, quick_picks, quick_finished, quick_column, quick_columns, quick}

-- ---- the marks
marked-length : (c fs : List ℕ) → length (marked c fs) ≡ length fs
unfolding marked
marked-length [] fs = refl
marked-length (x ∷ xs) fs = marked-length xs (set fs x 1) ∙ length-set fs x 1

marked_flags : (c fs : List ℕ) (r : ℕ) → r < length fs → flag_at (marked c fs) r ≡ (holds c r || flag_at fs r)
unfolding marked holds
marked_flags [] fs r h = refl
marked_flags (x ∷ xs) fs r h =
    marked_flags xs (set fs x 1) r (simp length-set h) ∙ rw (flag_set_at fs x r h) (or_swap (eqb x r) (holds xs r) (flag_at fs r))

if_length : (b : Bool) (c fs : List ℕ) → length (marked_if b c fs) ≡ length fs
unfolding marked_if
if_length true c fs = marked-length c fs
if_length false c fs = refl

if_flags : (b : Bool) (c fs : List ℕ) (r : ℕ) → r < length fs → flag_at (marked_if b c fs) r ≡ ((b && holds c r) || flag_at fs r)
unfolding marked_if
if_flags true c fs r h = marked_flags c fs r h
if_flags false c fs r h = refl

by_length : (cs : List (List ℕ)) (q : ℕ) (fs : List ℕ) → length (marked_by cs q fs) ≡ length fs
unfolding marked_by
by_length [] q fs = refl
by_length (c ∷ cs) q fs = by_length cs q (marked_if (holds c q) c fs) ∙ if_length (holds c q) c fs

by_flags : (cs : List (List ℕ)) (q : ℕ) (fs : List ℕ) (r : ℕ) → r < length fs → flag_at (marked_by cs q fs) r ≡ (together cs q r || flag_at fs r)
unfolding marked_by together
by_flags [] q fs r h = refl
by_flags (c ∷ cs) q fs r h =
    by_flags cs q (marked_if (holds c q) c fs) r (rw (if_length (holds c q) c fs) h)
    ∙ rw (if_flags (holds c q) c fs r h) (or_swap (holds c q && holds c r) (together cs q r) (flag_at fs r))

marks_length : (m : ℕ) (cs : List (List ℕ)) (picked : List ℕ) → length (marks_of m cs picked) ≡ m
unfolding marks_of
marks_length m cs [] = length-replicate m 0
marks_length m cs (q ∷ qs) = by_length cs q (set (marks_of m cs qs) q 1) ∙ length-set (marks_of m cs qs) q 1 ∙ marks_length m cs qs

marks_flags : (m : ℕ) (cs : List (List ℕ)) (picked : List ℕ) (r : ℕ) → r < m → flag_at (marks_of m cs picked) r ≡ skipped cs picked r
unfolding marks_of skipped flag_at
marks_flags m cs [] r h = rw (get_or-replicate {A = ℕ} m r 0 0 h)
marks_flags m cs (q ∷ qs) r h =
    let k : r < length (marks_of m cs qs) = rw (marks_length m cs qs) h in
    by_flags cs q (set (marks_of m cs qs) q 1) r (simp length-set k)
    ∙ rw (flag_set_at (marks_of m cs qs) q r k, marks_flags m cs qs r h) (or_swap (eqb q r) (together cs q r) (skipped cs qs r))

-- ---- the loads
loaded-length : (c ls : List ℕ) → length (loaded c ls) ≡ length ls
unfolding loaded
loaded-length [] ls = refl
loaded-length (x ∷ xs) ls = loaded-length xs (set ls x (get_or ls x 0 + 1)) ∙ length-set ls x (get_or ls x 0 + 1)

loaded-times : (c ls : List ℕ) (r : ℕ) → r < length ls → get_or (loaded c ls) r 0 ≡ times c r + get_or ls r 0
unfolding loaded times
loaded-times [] ls r h = omega arith
loaded-times (x ∷ xs) ls r h = loaded-times xs (set ls x (get_or ls x 0 + 1)) r (simp length-set h) ∙ rw (load-set_at ls x r h) (omega arith)

-- ---- the scan
-- the best so far has the load of its row
Right : (ℕ → ℕ) → Best → Type 0
Right L none = Unit
Right L (best l q) = l ≡ L q

module _ (L : ℕ → ℕ) (S : ℕ → Bool) where
  less-is : (t : Bool) (l k r q : ℕ) → found_in (less_of t l r (best k q)) ≡ Some (cond t r q)
  unfolding less_of found_in
  less-is true l k r q = refl
  less-is false l k r q = refl

  less-right : (t : Bool) (l k r q : ℕ) → l ≡ L r → k ≡ L q → Right L (less_of t l r (best k q))
  unfolding less_of Right
  less-right true l k r q e f = e
  less-right false l k r q e f = f

  met-is : (f l r : ℕ) (b : Best) → l ≡ L r → not (eqb f 0) ≡ S r → Right L b → found_in (met f l r b) ≡ met_row L (S r) r (found_in b)
  unfolding met found_in met_row least_of Right
  met-is zero l r none e s right = rw (← s)
  met-is zero l r (best k q) e s right = rw (← s) (less-is (ltb l k) l k r q ∙ rw (e, right))
  met-is (suc f) l r b e s right = rw (← s, eqb-suc-zero f)

  met-right : (f l r : ℕ) (b : Best) → l ≡ L r → Right L b → Right L (met f l r b)
  unfolding met Right
  met-right zero l r none e right = e
  met-right zero l r (best k q) e right = less-right (ltb l k) l k r q e right
  met-right (suc f) l r b e right = right

  module _ where
    scan-is : (ls fs : List ℕ) (r : ℕ) (b : Best) → length fs ≡ length ls → ((i : ℕ) → i < length ls → get_or ls i 0 ≡ L (r + i))
        → ((i : ℕ) → i < length ls → not (eqb (get_or fs i 0) 0) ≡ S (r + i)) → Right L b
        → (found_in (scan ls fs r b) ≡ met_rows L S (up_from r (length ls)) (found_in b)) × Right L (scan ls fs r b)
    unfolding scan met_rows up_from
    scan-is [] fs r b size loads flags right = (refl, right)
    scan-is (l ∷ ls) [] r b size loads flags right = absurd (omega arith)
    scan-is (l ∷ ls) (f ∷ fs) r b size loads flags right =
        let e : l ≡ L r = rw add-zero at (loads 0 (omega arith)) in
        let s : not (eqb f 0) ≡ S r = rw add-zero at (flags 0 (omega arith)) in
        let one = met-is f l r b e s right in
        let rest =
        scan-is ls fs (suc r) (met f l r b) (omega arith) (λ i h. rw (suc-add, ← add-suc) (loads (suc i) (omega arith)))
        (λ i h. rw (suc-add, ← add-suc) (flags (suc i) (omega arith))) (met-right f l r b e right) in
        (rw one at rest.0, rest.1)

quick-search : (ls fs : List ℕ) (start : ℕ) → length fs ≡ length ls → start ≤ length ls
    → quick_search ls fs start ≡ search (length ls) (load_at ls) (flag_at fs) start
unfolding quick_search load_at flag_at Right found_in
quick-search ls fs start size h =
    let L = load_at ls in
    let S = flag_at fs in
    let late =
    scan-is L S (drop start ls) (drop start fs) start none (simp length-drop (omega arith)) (λ i k. get_or-drop start ls i 0)
    (λ i k. ap (λ (x : ℕ). not (eqb x 0)) (get_or-drop start fs i 0)) tt in
    let size-l : length (take start ls) ≡ start = length-take-le start ls h in
    let size-f : length (take start fs) ≡ start = length-take-le start fs (omega arith) in
    let early =
    scan-is L S (take start ls) (take start fs) 0 (scan (drop start ls) (drop start fs) start none) (omega arith)
    (λ i k. rw zero-add (get_or-take start ls i 0 (omega arith)))
    (λ i k. rw zero-add (ap (λ (x : ℕ). not (eqb x 0)) (get_or-take start fs i 0 (omega arith)))) late.1 in
    early.0 ∙ rw (size-l, late.0, length-drop start ls) (met-round L S (length ls) start)

-- ---- the picks and the columns
quick-pick : (m : ℕ) (ls : List ℕ) (cs : List (List ℕ)) (picked : List ℕ) (s : ℕ) → 0 < m → length ls ≡ m → Loads cs ls
    → quick_pick m ls cs picked s ≡ pick m cs picked s
unfolding quick_pick pick Loads load_at
quick-pick m ls cs picked s some size right =
    let low = mod-lt s some in
    let found = quick-search ls (marks_of m cs picked) (s % m) (marks_length m cs picked ∙ sym size) (omega arith) in
    let same =
    search-same m (load_at ls) (load cs) (flag_at (marks_of m cs picked)) (skipped cs picked) (λ r h. right r (omega arith))
    (λ r h. marks_flags m cs picked r h) (s % m) (omega arith) in
    ap (settled m picked (s % m)) (found ∙ rw size same)

quick-picks : (t m : ℕ) (ls : List ℕ) (cs : List (List ℕ)) (s : ℕ) → 0 < m → length ls ≡ m → Loads cs ls → quick_picks t m ls cs s ≡ picks t m cs s
unfolding quick_picks picks quick_one_pick one_pick
quick-picks zero m ls cs s some size right = refl
quick-picks (suc t) m ls cs s some size right =
    rw (quick-picks t m ls cs s some size right, quick-pick m ls cs (picks t m cs s).rows (draw (picks t m cs s).state) some size right)

pub record Agrees (m : ℕ) (g : Kept) (h : Made) : Type 0 where
  pub same : g.so ≡ h
  pub size : length g.loads ≡ m
  pub right : Loads h.columns g.loads

quick-made : (k m seed : ℕ) → 0 < m → Agrees m (quick_columns k m seed) (made k m seed)
unfolding quick_columns made quick_column next_column quick_finished finished Loads load
quick-made zero m seed some = record {
  same = refl;
  size = length-replicate m 0;
  right = λ r h. get_or-replicate {A = ℕ} m r 0 0 (omega (arith, length-replicate {A = ℕ} m 0));
}
quick-made (suc k) m seed some =
    let ih = quick-made k m seed some in
    let g = quick_columns k m seed in
    let h = made k m seed in
    let p : quick_picks 3 m g.loads g.so.columns g.so.state ≡ picks 3 m h.columns h.state =
    rw ih.same (quick-picks 3 m g.loads h.columns h.state some ih.size ih.right) in
    record {
      same = rw (p, ih.same);
      size = loaded-length _ g.loads ∙ ih.size;
      right = λ r l. rw p (
          let rows = (picks 3 m h.columns h.state).rows in
          let low : r < length g.loads = omega (arith, loaded-length rows g.loads, rw p at l) in
          loaded-times rows g.loads r low ∙ rw (ih.right r low, times-sorted rows r));
    }

-- the law: both forms give the same columns, for any K, M and seed
pub agree : (k m seed : ℕ) → 0 < m → quick k m seed ≡ made k m seed
unfolding quick
agree k m seed some = (quick-made k m seed some).same
