-- What the code finds of a word, in the definitions' terms: its count and its first unsatisfied check.
use Rattle.std.specs.Prelude.{ℕ, Option, Some, None, Result}
use Rattle.refusal.specs.Outcome.{Outcome}
use Rattle.refusal.specs.Answers.{outcome_by}
use Rattle.refusal.specs.declared.Refusal.{Refusal}
use Rattle.tanner.specs.Checks.{First, check, none, Syndrome}
use Rattle.tanner.specs.declared.Counted.{Counted}

abbrev pub first_of : Option ℕ → First
first_of (Some c) = check c
first_of None = none

abbrev pub syndrome_of : Counted → Syndrome
syndrome_of c = record { count = c.count; first = first_of c.first }

-- an answer holds the count and the first check
abbrev pub counting_of : Result Counted Refusal → Outcome Syndrome
counting_of r = outcome_by syndrome_of r
