-- A pick among m rows, as document 01 ("The staircase codes") has it: the search once round the rows, and the relaxed pick.
-- The rows' loads, and whether the search skips a row, are given as functions.
use Rattle.std.specs.Prelude.{Bool, cond, Option, Some, None, List, [], ◌∷◌, ◌++◌, ℕ, zero, suc, ◌-◌, ltb}
use Rattle.columns.specs.Rows.{holds}

-- "The search yields a row or nothing"
abbrev pub Found : Type 0
Found = Option ℕ

-- n rows from a on
unfoldable pub up_from : ℕ → ℕ → List ℕ
up_from a zero = []
up_from a (suc n) = a ∷ up_from (suc a) n

-- "goes once round the rows", of which there are m
abbrev pub once_round : ℕ → ℕ → List ℕ
once_round m start = up_from start (m - start) ++ up_from 0 start

unfoldable pub without : (ℕ → Bool) → List ℕ → List ℕ
without skip [] = []
without skip (r ∷ rs) = cond (skip r) (without skip rs) (r ∷ without skip rs)

-- r, or the first of the rows that is less loaded than each before it
unfoldable pub least_of : (ℕ → ℕ) → ℕ → List ℕ → ℕ
least_of loads r [] = r
least_of loads r (q ∷ qs) = least_of loads (cond (ltb (loads q) (loads r)) q r) qs

-- "the least loaded of the rest, the first met among equals"
unfoldable pub first_least : (ℕ → ℕ) → List ℕ → Found
first_least loads [] = None
first_least loads (r ∷ rs) = Some (least_of loads r rs)

unfoldable pub search : ℕ → (ℕ → ℕ) → (ℕ → Bool) → ℕ → Found
search m loads skip start = first_least loads (without skip (once_round m start))

-- "the first row from the start not yet in the column", or the row other where there is none
unfoldable pub first_outside : List ℕ → List ℕ → ℕ → ℕ
first_outside picked [] other = other
first_outside picked (r ∷ rs) other = cond (holds picked r) (first_outside picked rs other) r

pub record Choice : Type 0 where
  pub row : ℕ
  -- 1 for a relaxed pick, else 0
  pub relaxed : ℕ

-- "nothing leads to the relaxed pick"
unfoldable pub settled : ℕ → List ℕ → ℕ → Found → Choice
settled m picked start (Some r) = record { row = r; relaxed = 0 }
settled m picked start None = record { row = first_outside picked (once_round m start) 0; relaxed = 1 }
