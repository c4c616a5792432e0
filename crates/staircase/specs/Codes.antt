-- The three codes by number: their checks, as the construction gives them.
use Rattle.std.specs.Prelude.{List, reverse, ℕ, zero, suc}
use Rattle.construction.specs.Columns.{made}
use Rattle.construction.specs.Codes.{Code, n512r12, n576r23, n512r34}
use Rattle.tanner.specs.Checks.{Checks}
use Rattle.staircase.specs.Staircase.{checks_of}

-- "Number 0 is `N512R12`, 1 is `N576R23`, 2 is `N512R34`" (any other number is refused)
abbrev pub code_of : ℕ → Code
code_of zero = n512r12
code_of (suc zero) = n576r23
code_of (suc (suc n)) = n512r34

-- the message columns, in order
unfoldable pub columns : Code → List (List ℕ)
columns c = reverse (made c.k c.m c.seed).columns

unfoldable pub checks : Code → Checks
checks c = checks_of c.k c.m (columns c)
