-- The check list of a staircase code, and its encoding, for any message columns. A column is the list of its rows.
-- (Document 01: "Parity column K+i lies in row i, and in row i+1 where there is one. ... A row lists message columns ascending, then K+i, then K+i-1.")
use Rattle.std.specs.Prelude.{cond, List, [], ◌∷◌, ◌++◌, ℕ, zero, suc, ◌+◌, ◌%◌}
use Rattle.columns.specs.Rows.{holds}
use Rattle.tanner.specs.Checks.{Word, Checks, parity, low_bits}

-- the message columns that row i holds, ascending; the first of the columns is column j
unfoldable pub taps : ℕ → ℕ → List (List ℕ) → List ℕ
taps i j [] = []
taps i j (c ∷ cs) = let more = taps i (suc j) cs in cond (holds c i) (j ∷ more) more

-- "then K+i, then K+i-1": row 0 has one parity entry, every other row two
unfoldable pub parity_entries : ℕ → ℕ → List ℕ
parity_entries k zero = k ∷ []
parity_entries k (suc i) = (k + suc i) ∷ ((k + i) ∷ [])

unfoldable pub check_row : ℕ → List (List ℕ) → ℕ → List ℕ
check_row k cols i = taps i 0 cols ++ parity_entries k i

-- n rows from row i on
unfoldable pub check_rows : ℕ → List (List ℕ) → ℕ → ℕ → Checks
check_rows k cols i zero = []
check_rows k cols i (suc n) = check_row k cols i ∷ check_rows k cols (suc i) n

-- the m checks of a code with k message columns
abbrev pub checks_of : ℕ → ℕ → List (List ℕ) → Checks
checks_of k m cols = check_rows k cols 0 m

-- n parity bits from row i on: each is the parity of the message bits in its row and of the parity bit before it, p
unfoldable pub parity_bits : List (List ℕ) → Word → ℕ → ℕ → ℕ → List ℕ
parity_bits cols message i zero p = []
parity_bits cols message i (suc n) p =
    let q = (parity (taps i 0 cols) message + p) % 2 in
    q ∷ parity_bits cols message (suc i) n q

-- "`encode` copies message bytes whole and uses their low bits for parity."
unfoldable pub encoded : ℕ → List (List ℕ) → List ℕ → List ℕ
encoded m cols message = message ++ parity_bits cols (low_bits message) 0 m 0
