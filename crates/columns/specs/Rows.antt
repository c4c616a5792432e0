-- A column is the list of its rows: which it holds, how often it names one, and its rows sorted (document 01, "The staircase codes").
use Rattle.std.specs.Prelude.{Bool, false, cond, ◌&&◌, ◌||◌, List, [], ◌∷◌, ℕ, ◌+◌, leb, eqb}

unfoldable pub holds : List ℕ → ℕ → Bool
holds [] r = false
holds (q ∷ qs) r = eqb q r || holds qs r

-- a column holds both rows
unfoldable pub together : List (List ℕ) → ℕ → ℕ → Bool
together [] q r = false
together (c ∷ cs) q r = (holds c q && holds c r) || together cs q r

-- how often a column names the row
unfoldable pub times : List ℕ → ℕ → ℕ
times [] r = 0
times (q ∷ qs) r = cond (eqb q r) 1 0 + times qs r

-- "then the rows are sorted"
unfoldable pub insert : ℕ → List ℕ → List ℕ
insert r [] = r ∷ []
insert r (q ∷ qs) = cond (leb r q) (r ∷ (q ∷ qs)) (q ∷ insert r qs)

unfoldable pub sorted : List ℕ → List ℕ
sorted [] = []
sorted (r ∷ rs) = insert r (sorted rs)
