-- What a call answers: its values where no condition of refusal holds, else the number of the first condition that does.
-- (Document 01, "When a call is turned down": "The answer carries the number and no count; lent memory is unchanged. Lowest number first".)
use Rattle.std.specs.Prelude.{Bool, cond, List, [], ◌∷◌, ℕ}

pub data Outcome (A : Type 0) : Type 0 where
  accepted : A → Outcome A
  refused : ℕ → Outcome A

-- a condition, and its number in document 01's table
pub record Condition : Type 0 where
  pub holds : Bool
  pub number : ℕ

infix 20 ◌when◌
abbrev pub ◌when◌ : ℕ → Bool → Condition
n when b = record { holds = b; number = n }

-- the answer of a call whose conditions are tested in the order of the list
abbrev pub judged : {A : Type 0} → List Condition → A → Outcome A
judged [] a = accepted a
judged (c ∷ cs) a = cond c.holds (refused c.number) (judged cs a)

-- lent memory after the call: what was written where no condition holds, and what it held before where one does
abbrev pub kept : {A : Type 0} → List Condition → A → A → A
kept [] before written = written
kept (c ∷ cs) before written = cond c.holds before (kept cs before written)
