-- How the code holds columns: three rows a column in one flat table, and for each row a flag and a load. What is marked and what is counted for a column.
use Rattle.std.specs.Prelude.{Bool, not, ◌&&◌, ◌||◌, List, [], ◌∷◌, ◌≡◌, ℕ, zero, suc, ◌+◌, ◌*◌, ◌<◌, eqb, length, get_or, take, drop}
use Rattle.columns.specs.Rows.{holds, together, times}

unfoldable pub flag_at : List ℕ → ℕ → Bool
flag_at fs r = not (eqb (get_or fs r 0) 0)

-- column j of the flat table
unfoldable pub column_at : List ℕ → ℕ → List ℕ
column_at rows j = take 3 (drop (3 * j) rows)

-- the first n columns, newest first
unfoldable pub columns_in : List ℕ → ℕ → List (List ℕ)
columns_in rows zero = []
columns_in rows (suc n) = column_at rows n ∷ columns_in rows n

-- v are the flags u with those of the rows
unfoldable pub Marked : List ℕ → List ℕ → List ℕ → Type 0
Marked c u v = (r : ℕ) → r < length u → flag_at v r ≡ (holds c r || flag_at u r)

-- the same where q is one of the rows
unfoldable pub MarkedWith : List ℕ → ℕ → List ℕ → List ℕ → Type 0
MarkedWith c q u v = (r : ℕ) → r < length u → flag_at v r ≡ ((holds c q && holds c r) || flag_at u r)

-- v are the flags u with those of q and of the rows that a column holds together with q
unfoldable pub AllMarked : List (List ℕ) → ℕ → List ℕ → List ℕ → Type 0
AllMarked cs q u v = (r : ℕ) → r < length u → flag_at v r ≡ ((eqb q r || together cs q r) || flag_at u r)

-- the loads v are the loads u with one more for each of the rows
unfoldable pub Loaded : List ℕ → List ℕ → List ℕ → Type 0
Loaded c u v = (r : ℕ) → r < length u → get_or v r 0 ≡ times c r + get_or u r 0

-- there is room for n more at each load
unfoldable pub Room : ℕ → List ℕ → Type 0
Room n ls = (r : ℕ) → r < length ls → get_or ls r 0 + n < 65536
