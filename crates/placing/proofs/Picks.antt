-- A pick made from the loads and the flags of the columns is the pick of the definition, and the table after it has one row more.
-- The search looks only at rows below m, where loads and flags are those of the columns.
use mathlib.Core.Path.{◌≡◌, refl, sym, ap, ◌∙◌}
use mathlib.Core.Bool.{Bool, true, false, ◌||◌, or_assoc, or_comm, or-false}
use mathlib.Core.List.{List, [], ◌∷◌, ◌++◌}
use Prim.Native.Nat.{ℕ, zero, suc, ◌+◌, ◌-◌, ◌*◌, ◌%◌, ◌≤◌, ◌<◌}
use native.Mathlib.Nat.{mod-lt}
use native.Mathlib.Numerals.{add-one}
use native.Mathlib.Omega.{arith}
use lib.Dec.{ltb, eqb}
use lib.ListN.{length, set, take, drop, length-set, length-drop}
use lib.Seq.{take-set-le, take-take, drop-set-add, take-suc-set}
use Rattle.columns.specs.Rows.{together}
use Rattle.columns.specs.Tables.{flag_at, column_at, columns_in, AllMarked}
use Rattle.lists.specs.Below.{Below}
use Rattle.lists.proofs.Below.{below-within, below_set}
use Rattle.picking.specs.Picks.{Found, Choice, up_from, search, least_of, settled}
use Rattle.std.specs.Prelude.{Some, None}
use Rattle.std.proofs.lemmas.List.{drop-take}
use Rattle.picking.specs.declared.Taken.{Taken}
use Rattle.picking.specs.Searches.{choice_of, met_row, met_rows, FoundBelow, load_at}
use Rattle.picking.proofs.Searches.{met-round}
use Rattle.picking.proofs.Rows.{either}
use Rattle.placing.specs.OnePick.{pick, skipped, load}
use Rattle.placing.specs.Tables.{Flags, Loads, Ready, Begun, Placed}

module _ (m : ℕ) (L L' : ℕ → ℕ) (S S' : ℕ → Bool) (loads : (r : ℕ) → r < m → L r ≡ L' r) (flags : (r : ℕ) → r < m → S r ≡ S' r) where
  met-same : (b : Bool) (r : ℕ) (f : Found) → r < m → FoundBelow m f → met_row L b r f ≡ met_row L' b r f
  unfolding met_row least_of
  met-same true r f h low = refl
  met-same false r None h low = refl
  met-same false r (Some q) h low = rw (loads r h, loads q low)

  met-below : (b : Bool) (r : ℕ) (f : Found) → r < m → FoundBelow m f → FoundBelow m (met_row L b r f)
  unfolding met_row least_of
  met-below true r f h low = low
  met-below false r None h low = h
  met-below false r (Some q) h low = either (λ (x : ℕ). x < m) (ltb (L r) (L q)) h low

  mets-same : (n a : ℕ) (f : Found) → a + n ≤ m → FoundBelow m f → met_rows L S (up_from a n) f ≡ met_rows L' S' (up_from a n) f
  unfolding met_rows up_from
  mets-same zero a f h low = refl
  mets-same (suc n) a f h low =
      let one = met-same (S a) a f (omega arith) low in
      let rest = mets-same n (suc a) (met_row L (S a) a f) (omega arith) (met-below (S a) a f (omega arith) low) in
      rest ∙ rw (one, flags a (omega arith))

  mets-below : (n a : ℕ) (f : Found) → a + n ≤ m → FoundBelow m f → FoundBelow m (met_rows L S (up_from a n) f)
  unfolding met_rows up_from
  mets-below zero a f h low = low
  mets-below (suc n) a f h low = mets-below n (suc a) (met_row L (S a) a f) (omega arith) (met-below (S a) a f (omega arith) low)

  pub search-same : (start : ℕ) → start ≤ m → search m L S start ≡ search m L' S' start
  search-same start h =
      let first = mets-same (m - start) start None (omega arith) tt in
      sym (met-round L S m start)
      ∙ mets-same start 0 _ (omega arith) (mets-below (m - start) start None (omega arith) tt)
      ∙ rw first (met-round L' S' m start)

-- ---- one pick
part_is : (n t : ℕ) (rows : List ℕ) → take (3 * n + t - 3 * n) (drop (3 * n) rows) ≡ take t (drop (3 * n) rows)
part_is n t rows =
    let e : 3 * n + t - 3 * n ≡ t = omega arith in
    rw e

-- the pick from the loads and the flags, for a column of which these rows stand
abbrev looked_up : List ℕ → List ℕ → List ℕ → ℕ → Choice
looked_up loads marks picked drawn =
    settled (length loads) picked (drawn % length loads) (search (length loads) (load_at loads) (flag_at marks) (drawn % length loads))

pick_is : {m : ℕ} {cs : List (List ℕ)} {loads marks : List ℕ} (n t drawn : ℕ) (rows : List ℕ) {c : Choice} → Ready m cs loads marks
    → Flags cs (take t (drop (3 * n) rows)) marks → c ≡ looked_up loads marks (take (3 * n + t - 3 * n) (drop (3 * n) rows)) drawn
    → c ≡ pick m cs (take t (drop (3 * n) rows)) drawn
unfolding pick Flags Loads load_at
pick_is {m} {cs} {loads} {marks} n t drawn rows ready flags c =
    let low = mod-lt drawn ready.some in
    let same =
    search-same m (load_at loads) (load cs) (flag_at marks) (skipped cs (take t (drop (3 * n) rows))) (λ r h. ready.right r (omega (arith, ready.rows_are)))
    (λ r h. flags r (omega (arith, ready.flags_are))) (drawn % m) (omega arith) in
    c ∙ rw (ready.rows_are, part_is n t rows, same)

skipped_append : (cs : List (List ℕ)) (xs ys : List ℕ) (r : ℕ) → skipped cs (xs ++ ys) r ≡ (skipped cs xs r || skipped cs ys r)
unfolding skipped
skipped_append cs [] ys r = refl
skipped_append cs (x ∷ xs) ys r = rw (skipped_append cs xs ys r) (sym (or_assoc (eqb x r || together cs x r) (skipped cs xs r) (skipped cs ys r)))

one_skipped : (cs : List (List ℕ)) (q r : ℕ) → skipped cs (q ∷ []) r ≡ (eqb q r || together cs q r)
unfolding skipped
one_skipped cs q r = or-false (eqb q r || together cs q r)

flags_more : (cs : List (List ℕ)) (picked : List ℕ) (q : ℕ) (u v : List ℕ) → length v ≡ length u → Flags cs picked u → AllMarked cs q u v
    → Flags cs (picked ++ (q ∷ [])) v
unfolding Flags AllMarked
flags_more cs picked q u v size f m r h =
    m r (omega arith)
    ∙ rw (f r (omega arith), skipped_append cs picked (q ∷ []) r, one_skipped cs q r) (or_comm (eqb q r || together cs q r) (skipped cs picked r))

-- ---- the picks of a column
pub columns-same : (n : ℕ) (u v : List ℕ) → take (3 * n) u ≡ take (3 * n) v → columns_in u n ≡ columns_in v n
unfolding columns_in column_at
columns-same zero u v e = refl
columns-same (suc n) u v e =
    let s : 3 * suc n ≡ 3 * n + 3 = omega arith in
    let f = rw s at e in
    let one : take 3 (drop (3 * n) u) ≡ take 3 (drop (3 * n) v) = rw (← drop-take (3 * n) 3 u, f) (drop-take (3 * n) 3 v) in
    let less : take (3 * n) u ≡ take (3 * n) v = rw (← take-take (3 * n) (3 * n + 3) u (omega arith), f) (take-take (3 * n) (3 * n + 3) v (omega arith)) in
    rw (one, columns-same n u v less)

-- the rows of the columns before
pub before_below : {m n t : ℕ} {rows loads marks : List ℕ} → t < 3 → Begun m n t rows loads marks → Below m (take (3 * n) rows)
before_below {m} {n} {t} {rows} early b = below-within m (3 * n + t) 0 (3 * n) rows (omega arith) (omega (arith, b.room)) b.below

-- the table after a pick of column n: the columns before stand as they did, and the column has one row more
module _ (n t r : ℕ) (rows : List ℕ) (fits : 3 * n + t < length rows) where
  pub set-earlier : take (3 * n) (set rows (3 * n + t) r) ≡ take (3 * n) rows
  set-earlier = take-set-le (3 * n) rows (3 * n + t) r (omega arith)

  set-columns : columns_in (set rows (3 * n + t) r) n ≡ columns_in rows n
  set-columns = columns-same n (set rows (3 * n + t) r) rows set-earlier

  pub set-picked : take (t + 1) (drop (3 * n) (set rows (3 * n + t) r)) ≡ take t (drop (3 * n) rows) ++ (r ∷ [])
  set-picked = rw (add-one, drop-set-add (3 * n) rows t r) (take-suc-set (drop (3 * n) rows) t r (simp length-drop (omega arith)))

pub placed : {m : ℕ} (n t drawn : ℕ) (rows loads marks marks' : List ℕ) (taken : Taken) → t < 3 → Begun m n t rows loads marks
    → choice_of taken ≡ looked_up loads marks (take (3 * n + t - 3 * n) (drop (3 * n) rows)) drawn
    → taken.row < m → length marks' ≡ length marks → AllMarked (columns_in rows n) taken.row marks marks'
    → Placed m n t drawn rows loads taken.relaxed (set rows (3 * n + t) taken.row) marks'
placed {m} n t drawn rows loads marks marks' taken early b e low size all =
    let r = taken.row in
    let same = pick_is n t drawn rows b.ready b.flags e in
    let fits : 3 * n + t < length rows = omega (arith, b.room) in
    let cs = set-columns n t r rows fits in
    record {
      relaxes = ap (λ (k : Choice). k.relaxed) same;
      stored = ap (λ (k : Choice). set rows (3 * n + t) k.row) same;
      begun = record {
        ready = record {
          some = b.ready.some;
          narrow = b.ready.narrow;
          rows_are = b.ready.rows_are;
          flags_are = size ∙ b.ready.flags_are;
          right = rw cs b.ready.right;
        };
        room = simp length-set b.room;
        few = b.few;
        below =
            let k : 3 * n + (t + 1) ≡ 3 * n + t + 1 = omega arith in
            rw k (below_set m (3 * n + t) r rows fits low b.below);
        flags = rw (cs, set-picked n t r rows fits) (flags_more _ _ r marks marks' size b.flags all);
      };
    }
