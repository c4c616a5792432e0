-- A column whose three picks are made, sorted and counted is the definition's next column; and the columns one after another are the construction.
use mathlib.Core.Path.{◌≡◌, refl, sym, ap, ◌∙◌}
use mathlib.Core.List.{List, [], ◌++◌, append_assoc, append-nil}
use Prim.Native.Nat.{ℕ, zero, suc, ◌+◌, ◌*◌, ◌≤◌, ◌<◌}
use native.Mathlib.Numerals.{add-one}
use native.Mathlib.Omega.{arith}
use lib.ListN.{length, take, drop, replicate, get_or-replicate, length-replicate}
use lib.Seq.{take-add, take-length}
use Rattle.columns.specs.Tables.{column_at, columns_in, flag_at}
use Rattle.lists.specs.Below.{Below}
use Rattle.placing.specs.OnePick.{load, skipped}
use Rattle.placing.specs.Tables.{Loads, Flags, Ready, Begun, Finished}
use Rattle.placing.proofs.Picks.{columns-same}
use Rattle.construction.specs.Columns.{finished, next_column, made, laid_before, rows_of}
use Rattle.construction.specs.Tables.{ColumnMade, Blank, Constructed}
use Rattle.construction.proofs.Picks.{Picked}

-- three picks, finished
pub column-made : {m n state s x : ℕ} {rows rows' rows'' loads'' marks'' : List ℕ} → Picked m n 3 state rows s x rows'
    → Finished m n (column_at rows' n) rows' rows'' loads'' marks'' → ColumnMade m n state rows s x rows'' loads'' marks''
unfolding column_at
column-made {n = n} {rows = rows} {rows'} p f = record {
  drawn = p.drawn;
  relaxes = p.relaxes;
  at_most = p.at_most;
  finished = record {
    columns = rw (← p.picked, ← columns-same n rows' rows p.earlier) f.columns;
    ready = f.ready;
    below = f.below;
    clear = f.clear;
  };
}

-- ---- the columns one after another
pub laid_rows : (rows l : List ℕ) (n : ℕ) → 3 * n ≤ length rows → laid_before (columns_in rows n) l ≡ take (3 * n) rows ++ l
unfolding laid_before columns_in column_at
laid_rows rows l zero h = refl
laid_rows rows l (suc n) h =
    let e : 3 * suc n ≡ 3 * n + 3 = omega arith in
    laid_rows rows (take 3 (drop (3 * n) rows) ++ l) n (omega arith)
    ∙ rw (e, take-add (3 * n) 3 rows, append_assoc (take (3 * n) rows) (take 3 (drop (3 * n) rows)) l)

-- n columns are made
pub record Built (m n seed : ℕ) (rows loads marks : List ℕ) (state relaxed : ℕ) : Type 0 where
  pub ready : Ready m (columns_in rows n) loads marks
  pub drawn : state ≡ (made n m seed).state
  pub relaxes : relaxed ≡ (made n m seed).relaxed
  pub at_most : relaxed ≤ 3 * n
  pub columns : columns_in rows n ≡ (made n m seed).columns
  pub below : Below m (take (3 * n) rows)
  pub clear : marks ≡ replicate m 0

-- loads and flags that are cleared
pub cleared_blank : (m n k : ℕ) (rows loads marks : List ℕ) → length rows ≡ 3 * k → 3 * k < 65536 → (0 < m) × ((m ≤ 65536) × (n ≡ m))
    → loads ≡ replicate m 0 → marks ≡ replicate n 0 → Blank (length loads) k rows loads marks
cleared_blank m n k rows loads marks long small sizes unloaded clear =
    let same = ap length unloaded ∙ length-replicate m 0 in
    record {
      some = rw same sizes.0;
      narrow = rw same sizes.1.0;
      room = long;
      few = small;
      unloaded = rw same unloaded;
      clear = rw (same, ← sizes.1.1) clear;
    }

zero_loads : (m : ℕ) → Loads [] (replicate m 0)
unfolding Loads load
zero_loads m r h = get_or-replicate {A = ℕ} m r 0 0 (omega (arith, length-replicate {A = ℕ} m 0))

pub built_none : {m k : ℕ} {rows loads marks : List ℕ} (seed : ℕ) → Blank m k rows loads marks → Built m 0 seed rows loads marks seed 0
unfolding made columns_in Below
built_none {m} seed b = record {
  ready = record {
    some = b.some;
    narrow = b.narrow;
    rows_are = ap length b.unloaded ∙ length-replicate m 0;
    flags_are = ap length b.clear ∙ length-replicate m 0;
    right = rw b.unloaded (zero_loads m);
  };
  drawn = refl;
  relaxes = refl;
  at_most = omega arith;
  columns = refl;
  below = λ i h. absurd (omega arith);
  clear = b.clear;
}

-- the next column can begin
pub built_begun : {m n seed : ℕ} {rows loads marks : List ℕ} {s x : ℕ} → Built m n seed rows loads marks s x → 3 * n + 3 ≤ length rows → 3 * n + 3 < 65536
    → Begun m n 0 rows loads marks
unfolding Flags skipped flag_at
built_begun {m} {n} b room few = record {
  ready = b.ready;
  room = room;
  few = few;
  below =
      let e : 3 * n + 0 ≡ 3 * n = omega arith in
      rw e b.below;
  flags = rw b.clear (λ r h. rw (get_or-replicate {A = ℕ} m r 0 0 (omega (arith, length-replicate {A = ℕ} m 0))));
}

pub built_more : {m n seed : ℕ} {rows rows' loads loads' marks marks' : List ℕ} {s s' x x' : ℕ} → Built m n seed rows loads marks s x
    → ColumnMade m n s rows s' x' rows' loads' marks' → Built m (n + 1) seed rows' loads' marks' s' (x + x')
unfolding made next_column finished
built_more {n = n} b c = record {
  ready = rw add-one c.finished.ready;
  drawn = rw (add-one, c.drawn, b.columns, b.drawn);
  relaxes = rw (add-one, c.relaxes, b.columns, b.drawn, b.relaxes);
  at_most = omega (arith, b.at_most, c.at_most);
  columns = rw (add-one, c.finished.columns, b.columns, b.drawn);
  below = rw add-one c.finished.below;
  clear = c.finished.clear;
}

pub built_all : {m n seed : ℕ} {rows loads marks : List ℕ} {s x : ℕ} → length rows ≡ 3 * n → Built m n seed rows loads marks s x → Constructed n m seed rows s x
unfolding rows_of
built_all {n = n} {rows = rows} size b =
    let all = laid_rows rows [] n (omega arith) in
    record {
      rows = sym (rw (← b.columns) (all ∙ append-nil (take (3 * n) rows) ∙ rw (← size) (take-length rows)));
      state = b.drawn;
      relaxes = b.relaxes;
    }
