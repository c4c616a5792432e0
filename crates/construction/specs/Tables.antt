-- The tables that the construction keeps, before the first column, after each and after the last.
use Rattle.std.specs.Prelude.{List, ◌≡◌, ℕ, ◌*◌, ◌≤◌, ◌<◌, length, replicate}
use Rattle.columns.specs.Tables.{columns_in}
use Rattle.placing.specs.Tables.{Finished}
use Rattle.construction.specs.Columns.{picks, made, rows_of}

-- column n is made: the generator's state goes through three picks
pub record ColumnMade (m n state : ℕ) (rows : List ℕ) (state' relaxed : ℕ) (rows' loads' marks' : List ℕ) : Type 0 where
  pub drawn : state' ≡ (picks 3 m (columns_in rows n) state).state
  pub relaxes : relaxed ≡ (picks 3 m (columns_in rows n) state).relaxed
  pub at_most : relaxed ≤ 3
  pub finished : Finished m n (picks 3 m (columns_in rows n) state).rows rows rows' loads' marks'

-- a table with room for k columns over m rows, before the first is made
pub record Blank (m k : ℕ) (rows loads marks : List ℕ) : Type 0 where
  pub some : 0 < m
  pub narrow : m ≤ 65536
  pub room : length rows ≡ 3 * k
  pub few : 3 * k < 65536
  pub unloaded : loads ≡ replicate m 0
  pub clear : marks ≡ replicate m 0

-- k columns are made from a seed
pub record Constructed (k m seed : ℕ) (rows' : List ℕ) (state' relaxed : ℕ) : Type 0 where
  pub rows : rows' ≡ rows_of k m seed
  pub state : state' ≡ (made k m seed).state
  pub relaxes : relaxed ≡ (made k m seed).relaxed
