-- One pick of a column, as document 01 ("The staircase codes") has it: the rows that it skips, the loads, and what it takes.
-- A column is the list of its rows; the columns made so far stand newest first.
use Rattle.std.specs.Prelude.{Bool, false, ◌||◌, List, [], ◌∷◌, ℕ, ◌+◌, ◌%◌, eqb}
use Rattle.columns.specs.Rows.{together, times}
use Rattle.picking.specs.Picks.{Choice, search, settled}

-- "It skips rows already in the column and rows that an earlier column holds together with one of them."
unfoldable pub skipped : List (List ℕ) → List ℕ → ℕ → Bool
skipped cs [] r = false
skipped cs (q ∷ qs) r = (eqb q r || together cs q r) || skipped cs qs r

-- the load of a row: how many picks of earlier columns took it ("Loads change after the third pick")
unfoldable pub load : List (List ℕ) → ℕ → ℕ
load [] r = 0
load (c ∷ cs) r = times c r + load cs r

-- "A pick draws, takes the remainder by M as its start": what was drawn is s
unfoldable pub pick : ℕ → List (List ℕ) → List ℕ → ℕ → Choice
pick m cs picked s = settled m picked (s % m) (search m (load cs) (skipped cs picked) (s % m))
