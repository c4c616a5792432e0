-- A staircase code's checks by their shape: every row has as many message positions, which lie in one table, row after row, and then its parity bits.
use Rattle.std.specs.Prelude.{List, [], ◌∷◌, ◌++◌, ℕ, zero, suc, ◌*◌, take, drop}
use Rattle.tanner.specs.Checks.{Checks}
use Rattle.staircase.specs.Staircase.{parity_entries}

-- the message positions of row i, `width` of them
unfoldable pub taps_at : ℕ → List ℕ → ℕ → List ℕ
taps_at width table i = take width (drop (i * width) table)

-- "A row lists message columns ascending, then K+i, then K+i-1."
abbrev pub stair_row : ℕ → ℕ → List ℕ → ℕ → List ℕ
stair_row k width table i = taps_at width table i ++ parity_entries k i

-- n rows from row i on
unfoldable pub stair_rows : ℕ → ℕ → List ℕ → ℕ → ℕ → Checks
stair_rows k width table i zero = []
stair_rows k width table i (suc n) = stair_row k width table i ∷ stair_rows k width table (suc i) n

-- the m rows of a code with k message positions
abbrev pub stairs : ℕ → ℕ → ℕ → List ℕ → Checks
stairs k width m table = stair_rows k width table 0 m
