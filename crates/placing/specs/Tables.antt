-- How the code holds a column in the making: the flags are those of the rows that a pick skips, and the loads those of the columns made.
-- What a pick and a finished column leave.
use Rattle.std.specs.Prelude.{Bool, List, ◌∷◌, ◌≡◌, ℕ, suc, ◌+◌, ◌*◌, ◌≤◌, ◌<◌, length, get_or, set, take, drop, replicate}
use Rattle.std.specs.Int.{from_bool}
use Rattle.columns.specs.Rows.{sorted}
use Rattle.columns.specs.Tables.{flag_at, columns_in}
use Rattle.lists.specs.Below.{Below}
use Rattle.placing.specs.OnePick.{load, skipped, pick}

-- the flags are those of the rows that a pick skips
unfoldable pub Flags : List (List ℕ) → List ℕ → List ℕ → Type 0
Flags cs picked u = (r : ℕ) → r < length u → flag_at u r ≡ skipped cs picked r

-- the loads are those of the columns
unfoldable pub Loads : List (List ℕ) → List ℕ → Type 0
Loads cs ls = (r : ℕ) → r < length ls → get_or ls r 0 ≡ load cs r

-- a pick can be made for the columns cs over m rows: the loads are theirs, and there is a flag for each row
pub record Ready (m : ℕ) (cs : List (List ℕ)) (loads marks : List ℕ) : Type 0 where
  pub some : 0 < m
  pub narrow : m ≤ 65536
  pub rows_are : length loads ≡ m
  pub flags_are : length marks ≡ m
  pub right : Loads cs loads

-- t picks of column n stand in the table: the loads are those of the columns before, and the flags those of the rows that the next pick skips
pub record Begun (m n t : ℕ) (rows loads marks : List ℕ) : Type 0 where
  pub ready : Ready m (columns_in rows n) loads marks
  pub room : 3 * n + 3 ≤ length rows
  pub few : 3 * n + 3 < 65536
  pub below : Below m (take (3 * n + t) rows)
  pub flags : Flags (columns_in rows n) (take t (drop (3 * n) rows)) marks

-- pick t of column n is made, at a drawn number
pub record Placed (m n t drawn : ℕ) (rows loads : List ℕ) (relaxed : Bool) (rows' marks' : List ℕ) : Type 0 where
  pub relaxes : from_bool relaxed ≡ (pick m (columns_in rows n) (take t (drop (3 * n) rows)) drawn).relaxed
  pub stored : rows' ≡ set rows (3 * n + t) (pick m (columns_in rows n) (take t (drop (3 * n) rows)) drawn).row
  pub begun : Begun m n (t + 1) rows' loads marks'

-- the three rows of column n are sorted and counted, and no flag is left
pub record Finished (m n : ℕ) (column rows rows' loads' marks' : List ℕ) : Type 0 where
  pub columns : columns_in rows' (suc n) ≡ sorted column ∷ columns_in rows n
  pub ready : Ready m (columns_in rows' (suc n)) loads' marks'
  pub below : Below m (take (3 * suc n) rows')
  pub clear : marks' ≡ replicate m 0
