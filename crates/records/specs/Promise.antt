-- Demand 3 over records: a call of `decode_pairs` is one of the calls that the promise between two limits speaks of.
use Rattle.std.specs.Prelude.{List, ℕ, Float, Result}
use Rattle.refusal.specs.declared.Refusal.{Refusal}
use Rattle.refusal.specs.Answers.{outcome_of}
use Rattle.batch.specs.Calls.{Lent, batch, Answered}
use Rattle.batch.specs.Promise.{Call}
use Rattle.record_check.specs.declared.Pair.{Pair}
use Rattle.record_check.specs.Fields.{pairs_of}

-- a call that was made: what was handed over, what it answered, what it left in the lent memory; by the contract of `decode_pairs`
pub record RecordsCall : Type 0 where
  pub code : ℕ
  pub rule : ℕ
  pub limit : ℕ
  pub scale : Float
  pub values : List Float
  pub records : List Pair
  pub memory : Lent
  pub answer : Result Unit Refusal
  pub left : Lent
  pub answered : Answered (batch code rule limit scale values (pairs_of records) memory) (outcome_of answer) left

abbrev pub called : RecordsCall → Call
called c = record {
  handed = batch c.code c.rule c.limit c.scale c.values (pairs_of c.records) c.memory;
  answer = outcome_of c.answer;
  left = c.left;
  answered = c.answered;
}
