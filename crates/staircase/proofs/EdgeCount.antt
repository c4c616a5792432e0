-- A staircase code has 3K + 2M - 1 edges, for any K and seed and any M from 3 on: each column lies in three different rows (`columns_regular`).
-- The rows' lengths are added up: each column adds one to each of its rows, and each row has two parity entries but row 0, which has one.
use mathlib.Core.Path.{◌≡◌, refl, sym, ap, ◌∙◌}
use mathlib.Core.Bool.{Bool, true, false, cond, ◌||◌}
use mathlib.Core.List.{List, [], ◌∷◌, ◌++◌, reverse, reverse-cons}
use Prim.Native.Nat.{ℕ, zero, suc, ◌+◌, ◌-◌, ◌*◌, ◌≤◌, ◌<◌}
use native.Mathlib.Omega.{arith}
use borrow.Author.Tests.{ne_eqb, eqb-true, eqb-false}
use lib.Arith.{lt_of_le-ne}
use lib.Dec.{eqb}
use lib.ListN.{length, length-append, length-reverse}
use Rattle.columns.specs.Rows.{holds, times}
use Rattle.construction.specs.Columns.{made, next_column, finished}
use Rattle.construction.specs.Codes.{Code}
use Rattle.construction.proofs.Regular.{InRows, Regular, none, more, columns_regular}
use Rattle.tanner.specs.Flat.{joined}
use Rattle.staircase.specs.Staircase.{taps, parity_entries, check_row, check_rows}
use Rattle.staircase.specs.Codes.{code_of, columns, checks}

-- the sum of f over n rows from i on
sum_from : (ℕ → ℕ) → ℕ → ℕ → ℕ
sum_from f i zero = 0
sum_from f i (suc n) = f i + sum_from f (suc i) n

sum-add : (f g h : ℕ → ℕ) → ((r : ℕ) → h r ≡ f r + g r) → (n i : ℕ) → sum_from h i n ≡ sum_from f i n + sum_from g i n
unfolding sum_from
sum-add f g h e zero i = refl
sum-add f g h e (suc n) i = omega (arith, e i, sum-add f g h e n (suc i))

sum-zero : (f : ℕ → ℕ) → ((r : ℕ) → f r ≡ 0) → (n i : ℕ) → sum_from f i n ≡ 0
unfolding sum_from
sum-zero f e zero i = refl
sum-zero f e (suc n) i = omega (arith, e i, sum-zero f e n (suc i))

at_row : ℕ → ℕ → ℕ
at_row x r = cond (eqb x r) 1 0

past_row : (x n i : ℕ) → x < i → sum_from (at_row x) i n ≡ 0
unfolding sum_from at_row
past_row x zero i h = refl
past_row x (suc n) i h = rw (ne_eqb x i (λ e. omega arith)) (omega (arith, past_row x n (suc i) (omega arith)))

here_or_later : (x n i : ℕ) (b : Bool) → eqb x i ≡ b → (i < x → sum_from (at_row x) (suc i) n ≡ 1) → i ≤ x → cond b 1 0 + sum_from (at_row x) (suc i) n ≡ 1
here_or_later x n i true e later low = omega (arith, past_row x n (suc i) (omega (arith, eqb-true x i e)))
here_or_later x n i false e later low = omega (arith, later (lt_of_le-ne low (λ p. eqb-false x i e (sym p))))

one_row : (x n i : ℕ) → i ≤ x → x < i + n → sum_from (at_row x) i n ≡ 1
unfolding sum_from at_row
one_row x zero i low high = absurd (omega arith)
one_row x (suc n) i low high = here_or_later x n i (eqb x i) refl (λ p. one_row x n (suc i) p (omega arith)) low

times_none : (r : ℕ) → times [] r ≡ 0
unfolding times
times_none r = refl

times_more : (x : ℕ) (xs : List ℕ) (r : ℕ) → times (x ∷ xs) r ≡ at_row x r + times xs r
unfolding times at_row
times_more x xs r = refl

-- a column that names a row at most once names it once where it holds it
held_if : (xs : List ℕ) (r : ℕ) (b : Bool) → cond (holds xs r) 1 0 ≡ times xs r → cond b 1 0 + times xs r ≤ 1
    → cond (b || holds xs r) 1 0 ≡ cond b 1 0 + times xs r
held_if xs r true e h = omega arith
held_if xs r false e h = omega arith

held_once : (c : List ℕ) (r : ℕ) → times c r ≤ 1 → cond (holds c r) 1 0 ≡ times c r
unfolding holds times
held_once [] r h = refl
held_once (x ∷ xs) r h = held_if xs r (eqb x r) (held_once xs r (omega arith)) h

-- ---- what a column adds to the rows
sum-times : (m : ℕ) (c : List ℕ) → InRows m c → sum_from (times c) 0 m ≡ length c
unfolding InRows
sum-times m [] low = sum-zero (times []) times_none m 0
sum-times m (x ∷ xs) low =
    sum-add (at_row x) (times xs) (times (x ∷ xs)) (times_more x xs) m 0
    ∙ omega (arith, one_row x m 0 (omega arith) (omega (arith, low.0)), sum-times m xs low.1)

-- ---- what all columns add
-- how many of the columns hold row r
tap_count : List (List ℕ) → ℕ → ℕ
tap_count [] r = 0
tap_count (c ∷ cs) r = cond (holds c r) 1 0 + tap_count cs r

taps_if : (b : Bool) (j : ℕ) (l : List ℕ) → length (cond b (j ∷ l) l) ≡ cond b 1 0 + length l
taps_if true j l = omega arith
taps_if false j l = omega arith

taps-length : (r j : ℕ) (cols : List (List ℕ)) → length (taps r j cols) ≡ tap_count cols r
unfolding taps tap_count
taps-length r j [] = refl
taps-length r j (c ∷ cs) = taps_if (holds c r) j (taps r (suc j) cs) ∙ rw (taps-length r (suc j) cs)

sum-taps : (m : ℕ) {cols : List (List ℕ)} → Regular m cols → sum_from (tap_count cols) 0 m ≡ 3 * length cols
unfolding tap_count
sum-taps m none = sum-zero (tap_count []) (λ r. refl) m 0
sum-taps m (more {c = c} {cs = cs} three once low rest) =
    sum-add (times c) (tap_count cs) (tap_count (c ∷ cs)) (λ r. rw (held_once c r (once r))) m 0
    ∙ omega (arith, sum-times m c low, three, sum-taps m rest)

-- ---- the rows' lengths
entry_count : ℕ → ℕ
entry_count zero = 1
entry_count (suc i) = 2

entries-length : (k i : ℕ) → length (parity_entries k i) ≡ entry_count i
unfolding parity_entries entry_count
entries-length k zero = refl
entries-length k (suc i) = refl

row_count : List (List ℕ) → ℕ → ℕ
row_count cols r = tap_count cols r + entry_count r

joined_length : (k : ℕ) (cols : List (List ℕ)) (n i : ℕ) → length (joined (check_rows k cols i n)) ≡ sum_from (row_count cols) i n
unfolding joined check_rows check_row sum_from row_count
joined_length k cols zero i = refl
joined_length k cols (suc n) i =
    length-append (taps i 0 cols ++ parity_entries k i) (joined (check_rows k cols (suc i) n))
    ∙ omega (arith, length-append (taps i 0 cols) (parity_entries k i), taps-length i 0 cols, entries-length k i, joined_length k cols n (suc i))

later-entries : (n i : ℕ) → sum_from entry_count (suc i) n ≡ 2 * n
unfolding sum_from entry_count
later-entries zero i = refl
later-entries (suc n) i = omega (arith, later-entries n (suc i))

sum-entries : (m : ℕ) → 0 < m → sum_from entry_count 0 m ≡ 2 * m - 1
unfolding sum_from entry_count
sum-entries zero h = absurd (omega arith)
sum-entries (suc m) h = omega (arith, later-entries m 0)

-- ---- the codes' columns, in order
regular_append : (m : ℕ) {xs ys : List (List ℕ)} → Regular m xs → Regular m ys → Regular m (xs ++ ys)
regular_append m none q = q
regular_append m (more three once low rest) q = more three once low (regular_append m rest q)

regular_reverse : (m : ℕ) {cs : List (List ℕ)} → Regular m cs → Regular m (reverse cs)
regular_reverse m none = none
regular_reverse m (more {c = c} {cs = cs} three once low rest) = rw (reverse-cons c cs) (regular_append m (regular_reverse m rest) (more three once low none))

made-length : (k m seed : ℕ) → length (made k m seed).columns ≡ k
unfolding made next_column finished
made-length zero m seed = refl
made-length (suc k) m seed = ap suc (made-length k m seed)

pub columns-length : (c : Code) → length (columns c) ≡ c.k
unfolding columns
columns-length c = length-reverse (made c.k c.m c.seed).columns ∙ made-length c.k c.m c.seed

-- "Edges number 3K + 2M - 1"
pub edge_count : (c : Code) → 3 ≤ c.m → length (joined (checks c)) ≡ 3 * c.k + 2 * c.m - 1
unfolding row_count checks columns
edge_count c some =
    let regular = regular_reverse c.m (columns_regular c.k c.m c.seed some) in
    joined_length c.k (columns c) c.m 0 ∙ sum-add (tap_count (columns c)) entry_count (row_count (columns c)) (λ r. refl) c.m 0
    ∙ omega (arith, sum-taps c.m regular, sum-entries c.m (omega arith), columns-length c)

-- "1,279, 1,535 and 1,407"
pub edge_numbers : (length (joined (checks (code_of 0))) ≡ 1279)
    × ((length (joined (checks (code_of 1))) ≡ 1535) × (length (joined (checks (code_of 2))) ≡ 1407))
edge_numbers = (edge_count (code_of 0) (omega arith), (edge_count (code_of 1) (omega arith), edge_count (code_of 2) (omega arith)))
