-- The checks of a staircase code, for any message columns: how many there are, which is at which place, and that they cover positions below N.
-- By induction over the rows. Assumes nothing.
use mathlib.Core.Path.{◌≡◌, refl, ap, ◌∙◌}
use mathlib.Core.Bool.{Bool, true, false, cond}
use mathlib.Core.List.{List, [], ◌∷◌}
use Prim.Native.Nat.{ℕ, zero, suc, ◌+◌, ◌≤◌, ◌<◌}
use native.Mathlib.Nat.{add-zero}
use native.Mathlib.Omega.{arith}
use lib.ListN.{length, get_or}
use Rattle.columns.specs.Rows.{holds}
use Rattle.construction.specs.Codes.{Code, block_length}
use Rattle.tanner.specs.Flat.{joined}
use Rattle.lists.specs.Below.{Below}
use Rattle.lists.proofs.Below.{below_none, below-cons, below-append}
use Rattle.staircase.specs.Staircase.{taps, parity_entries, check_row, check_rows, checks_of}
use Rattle.staircase.specs.Codes.{columns, checks}
use Rattle.staircase.proofs.EdgeCount.{columns-length}

-- ---- how many, and which

module _ (k : ℕ) (cols : List (List ℕ)) where
  rows_length : (n i : ℕ) → length (check_rows k cols i n) ≡ n
  unfolding check_rows
  rows_length zero i = refl
  rows_length (suc n) i = ap suc (rows_length n (suc i))

  row_from : (n i c : ℕ) → c < n → get_or (check_rows k cols i n) c [] ≡ check_row k cols (i + c)
  unfolding check_rows
  row_from zero i c h = absurd (omega arith)
  row_from (suc n) i zero h = rw add-zero
  row_from (suc n) i (suc c) h =
      let e : i + suc c ≡ suc i + c = omega arith in
      rw e (row_from n (suc i) c (omega arith))

pub checks-length : (k m : ℕ) (cols : List (List ℕ)) → length (checks_of k m cols) ≡ m
checks-length k m cols = rows_length k cols m 0

pub row_at : (k m : ℕ) (cols : List (List ℕ)) (c : ℕ) → c < m → get_or (checks_of k m cols) c [] ≡ check_row k cols c
row_at k m cols c h =
    let e : 0 + c ≡ c = omega arith in
    row_from k cols m 0 c h ∙ ap (check_row k cols) e

-- ---- the positions that they cover

below_if : (n x : ℕ) (l : List ℕ) (b : Bool) → x < n → Below n l → Below n (cond b (x ∷ l) l)
below_if n x l true h low = below-cons n x l h low
below_if n x l false h low = low

pub taps_below : (n i j : ℕ) (cols : List (List ℕ)) → j + length cols ≤ n → Below n (taps i j cols)
unfolding taps
taps_below n i j [] h = below_none n
taps_below n i j (c ∷ cs) h = below_if n j (taps i (suc j) cs) (holds c i) (omega arith) (taps_below n i (suc j) cs (omega arith))

entries_below : (k i n : ℕ) → k + i < n → Below n (parity_entries k i)
unfolding parity_entries
entries_below k zero n h = below-cons n k [] (omega arith) (below_none n)
entries_below k (suc i) n h = below-cons n _ _ h (below-cons n (k + i) [] (omega arith) (below_none n))

rows_below : (k : ℕ) (cols : List (List ℕ)) (m i n : ℕ) → length cols ≤ k → i + n ≤ m → Below (k + m) (joined (check_rows k cols i n))
unfolding joined check_rows check_row
rows_below k cols m i zero size h = below_none (k + m)
rows_below k cols m i (suc n) size h =
    below-append (k + m) _ _
    (below-append (k + m) (taps i 0 cols) _ (taps_below (k + m) i 0 cols (omega arith)) (entries_below k i (k + m) (omega arith)))
    (rows_below k cols m (suc i) n size (omega arith))

-- ---- of one code

pub checks-low : (c : Code) → Below (block_length c) (joined (checks c))
unfolding checks
checks-low c = rows_below c.k (columns c) c.m 0 c.m (omega (arith, columns-length c)) (omega arith)

pub checks_many : (c : Code) → length (checks c) ≡ c.m
unfolding checks
checks_many c = checks-length c.k c.m (columns c)
