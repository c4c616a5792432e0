-- The (174,91) code's checks, from `NM` and `NUM_ROWS`.
use Rattle.std.specs.Prelude.{List, [], ◌∷◌, map, ℕ, pred, take, drop}
use Rattle.tanner.specs.Checks.{Checks}
use Rattle.code174.specs.Tables.{nm, num_rows}

-- Document 01: "`NM` and `MN` count positions from 1; 0 in `NM` means no entry." Rows of 7 places lie one after another in ps;
-- of each, as many entries as the list of sizes says are positions, here counted from 0.
unfoldable pub rows_of_seven : List ℕ → List ℕ → Checks
rows_of_seven [] ps = []
rows_of_seven (n ∷ ns) ps = map pred (take n ps) ∷ rows_of_seven ns (drop 7 ps)

-- the positions that each of the 83 checks covers, in `NM` order
unfoldable pub checks : Checks
checks = rows_of_seven num_rows nm
