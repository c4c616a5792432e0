-- What an answer says: this paper's number and values for each case of a `Result`.
-- (Document 01: "For each answer that is an enum, a definition gives this paper's number and values for each of the enum's cases".)
use Rattle.std.specs.Prelude.{Result, Ok, Err}
use Rattle.refusal.specs.Outcome.{Outcome, accepted, refused}
use Rattle.refusal.specs.Numbers.{number_of}
use Rattle.refusal.specs.declared.Refusal.{Refusal}

-- an answer that holds a value of this paper's: the value, or the number of the refusal
abbrev pub outcome_of : {A : Type 0} → Result A Refusal → Outcome A
outcome_of (Ok a) = accepted a
outcome_of (Err r) = refused (number_of r)

-- an answer whose value stands for one of this paper's
abbrev pub outcome_by : {A B : Type 0} → (A → B) → Result A Refusal → Outcome B
outcome_by f (Ok a) = accepted (f a)
outcome_by f (Err r) = refused (number_of r)
