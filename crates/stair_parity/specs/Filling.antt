-- What filling in a staircase code's parity bits asks, and what it leaves in a word.
use Rattle.std.specs.Prelude.{List, [], ◌∷◌, ℕ, suc, ◌+◌, ◌*◌, ◌≤◌, length, set}
use Rattle.tanner.specs.Checks.{Checks}
use Rattle.tanner.specs.Masked.{count_masked}
use Rattle.lists.specs.Below.{Below}

-- n rows from row `first` on lie in the table, and a word of `len` bytes has room for their parity bits
pub record Part (k width first n len : ℕ) (table : List ℕ) : Type 0 where
  pub size : (first + n) * width ≤ length table
  pub low : Below k table
  pub room : k + (first + n) ≤ len

-- each check's parity bit filled in, the first at p: the count of that check alone with the bit at 0
unfoldable pub filled : Checks → ℕ → List ℕ → List ℕ
filled [] p w = w
filled (r ∷ rs) p w = filled rs (suc p) (set w p (count_masked 1 (r ∷ []) (set w p 0)))
