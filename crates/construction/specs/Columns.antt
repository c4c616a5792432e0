-- The rows of the message columns, as document 01 ("The staircase codes") has them: each column makes three picks.
-- A column is the list of its rows; the columns made so far stand newest first.
use Rattle.std.specs.Prelude.{List, [], ◌∷◌, ◌++◌, ℕ, zero, suc, ◌+◌}
use Rattle.xorshift.specs.Draw.{draw}
use Rattle.columns.specs.Rows.{sorted}
use Rattle.placing.specs.OnePick.{pick}

-- the picks of a column so far: the generator's state after them, their rows, and how many were relaxed
pub record Picks : Type 0 where
  pub state : ℕ
  pub rows : List ℕ
  pub relaxed : ℕ

unfoldable pub one_pick : ℕ → List (List ℕ) → Picks → Picks
one_pick m cs p =
    let s = draw p.state in
    let c = pick m cs p.rows s in
    record { state = s; rows = p.rows ++ (c.row ∷ []); relaxed = p.relaxed + c.relaxed }

unfoldable pub picks : ℕ → ℕ → List (List ℕ) → ℕ → Picks
picks zero m cs s = record { state = s; rows = []; relaxed = 0 }
picks (suc t) m cs s = one_pick m cs (picks t m cs s)

pub record Made : Type 0 where
  pub state : ℕ
  pub columns : List (List ℕ)
  pub relaxed : ℕ

unfoldable pub finished : Made → Picks → Made
finished g p = record { state = p.state; columns = sorted p.rows ∷ g.columns; relaxed = g.relaxed + p.relaxed }

-- "Each message column makes three picks."
unfoldable pub next_column : ℕ → Made → Made
next_column m g = finished g (picks 3 m g.columns g.state)

-- k columns over m rows
unfoldable pub made : ℕ → ℕ → ℕ → Made
made zero m seed = record { state = seed; columns = []; relaxed = 0 }
made (suc k) m seed = next_column m (made k m seed)

-- the columns in order, one after another
unfoldable pub laid_before : List (List ℕ) → List ℕ → List ℕ
laid_before [] l = l
laid_before (c ∷ cs) l = laid_before cs (c ++ l)

unfoldable pub rows_of : ℕ → ℕ → ℕ → List ℕ
rows_of k m seed = laid_before (made k m seed).columns []
