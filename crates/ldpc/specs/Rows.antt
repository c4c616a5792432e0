-- The rows of `NM` as the code counts by them: seven entries each, positions counted from 1, over a word with a byte 0 before it.
use Rattle.std.specs.Prelude.{◌≡◌, List, [], ◌∷◌, ℕ, zero, suc, ◌*◌, ◌<◌, length, take, drop}
use Rattle.tanner.specs.Checks.{Checks}
use Rattle.lists.specs.Below.{Below}

-- the first n rows of seven
unfoldable pub sevens : ℕ → List ℕ → Checks
sevens zero ps = []
sevens (suc n) ps = take 7 ps ∷ sevens n (drop 7 ps)

-- "`NM` and `MN` count positions from 1; 0 in `NM` means no entry": the positions of a row, counted from 0
unfoldable pub from_one : List ℕ → List ℕ
from_one [] = []
from_one (zero ∷ ps) = from_one ps
from_one (suc p ∷ ps) = p ∷ from_one ps

-- a table of few rows, whose entries are places of a word of n bytes
pub record Rows (rows : ℕ) (table : List ℕ) (n : ℕ) : Type 0 where
  pub size : length table ≡ rows * 7
  pub low : Below n table
  pub few : rows < 65536
