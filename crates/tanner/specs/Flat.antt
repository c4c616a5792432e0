-- Lists laid flat, one after another, with the places where they start: how a code's checks and each bit's edges lie in arrays.
use Rattle.std.specs.Prelude.{cond, List, [], ◌∷◌, ◌++◌, ℕ, zero, suc, ◌+◌, ◌-◌, ◌<◌, ◌≤◌, eqb, length, get_or, take, drop}
use Rattle.lists.specs.Below.{Below}
use Rattle.tanner.specs.Checks.{Checks}

-- the lists one after another
unfoldable pub joined : {A : Type 0} → List (List A) → List A
joined [] = []
joined (r ∷ rs) = r ++ joined rs

-- where each list ends, the first starting at a
unfoldable pub ends : ℕ → Checks → List ℕ
ends a [] = []
ends a (r ∷ rs) = (a + length r) ∷ ends (a + length r) rs

-- where each list starts, and the end of the last
abbrev pub offsets : Checks → List ℕ
offsets rs = 0 ∷ ends 0 rs

-- the lists that lie in a flat one: the first from a on, and each up to the end that the list says
unfoldable pub cut : ℕ → List ℕ → List ℕ → Checks
cut a [] flat = []
cut a (b ∷ s) flat = take (b - a) (drop a flat) ∷ cut b s flat

-- the same from index c of the starts on
unfoldable pub rows_from : List ℕ → ℕ → List ℕ → Checks
rows_from starts c flat = cut (get_or starts c 0) (drop (c + 1) starts) flat

-- all lists
abbrev pub rows_of : List ℕ → List ℕ → Checks
rows_of starts flat = rows_from starts 0 flat

-- the starts rise and stay within n
unfoldable pub Within : List ℕ → ℕ → Type 0
Within starts n = (k : ℕ) → k + 1 < length starts → (get_or starts k 0 ≤ get_or starts (k + 1) 0) × (get_or starts (k + 1) 0 ≤ n)

-- the starts, of which there are few, lie within the flat list, whose entries are positions below n
pub record FlatChecks (starts flat : List ℕ) (n : ℕ) : Type 0 where
  pub some : 0 < length starts
  pub few : length starts ≤ 65536
  pub within : Within starts (length flat)
  pub low : Below n flat

-- the places at which p stands in a list whose first entry is at place e
unfoldable pub places : ℕ → ℕ → List ℕ → List ℕ
places p e [] = []
places p e (q ∷ qs) = let more = places p (suc e) qs in cond (eqb q p) (e ∷ more) more

-- An edge joins a check and a position that it covers. Edges are numbered check by check, in row order.
-- The edges of each of n positions, from position p on: a position's edges rise, so its checks do.
unfoldable pub edges_from : ℕ → ℕ → List ℕ → Checks
edges_from p zero flat = []
edges_from p (suc n) flat = places p 0 flat ∷ edges_from (suc p) n flat

abbrev pub bit_edges : ℕ → Checks → Checks
bit_edges n cs = edges_from 0 n (joined cs)
