-- A check's positions, one at a time, and the check that lies at a place of the flat tables. Assumes nothing.
use mathlib.Core.Path.{◌≡◌}
use mathlib.Core.List.{List, [], ◌++◌}
use Prim.Native.Nat.{ℕ, zero, suc, ◌+◌, ◌-◌, ◌<◌, ◌≤◌}
use native.Mathlib.Nat.{add-zero}
use native.Mathlib.Numerals.{add-one}
use native.Mathlib.Omega.{arith}
use lib.ListN.{length, get_or, take, drop}
use lib.Seq.{drop-cons, drop-length}
use Rattle.tanner.specs.Checks.{Word}
use Rattle.tanner.specs.Flat.{rows_from, rows_of}
use Rattle.tanner.proofs.Steps.{rows_more}
use Rattle.reason_lines.specs.Lines.{pair_text, entry, entries}

module _ (ps : List ℕ) (word : Word) (i : ℕ) where
  pub entries-more : i < length ps → entries (drop i ps) word ≡ pair_text (get_or ps i 0) (get_or word (get_or ps i 0) 0) ++ entries (drop (i + 1) ps) word
  unfolding entries entry
  entries-more h = rw (add-one i, drop-cons ps i 0 h)

  pub entries_none : length ps ≤ i → i ≤ length ps → entries (drop i ps) word ≡ []
  unfolding entries
  entries_none h k =
      let all : i ≡ length ps = omega arith in
      rw (all, drop-length ps)

-- check c of the flat tables: the positions from its start to the next
module _ (starts flat : List ℕ) where
  abbrev row_at : ℕ → List ℕ
  row_at c = take (get_or starts (c + 1) 0 - get_or starts c 0) (drop (get_or starts c 0) flat)

  row_from : (j k : ℕ) → k + j + 1 < length starts → get_or (rows_from starts k flat) j [] ≡ row_at (k + j)
  row_from zero k h = rw (rows_more starts flat k (omega arith), add-zero k)
  row_from (suc j) k h =
      let further : k + suc j ≡ k + 1 + j = omega arith in
      rw (rows_more starts flat k (omega arith), further) (row_from j (k + 1) (omega arith))

  pub row_is : (c : ℕ) → c + 1 < length starts → get_or (rows_of starts flat) c [] ≡ row_at c
  row_is c h =
      let e : 0 + c ≡ c = omega arith in
      rw e at (row_from c 0 (omega arith))
