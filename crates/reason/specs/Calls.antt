-- The outside call that explains a frame: when it is refused, what it answers otherwise, and what it leaves in the memory lent to it.
use Rattle.std.specs.Prelude.{◌≡◌, not, List, [], ◌∷◌, ℕ, eqb, ltb, Float, length}
use Rattle.refusal.specs.Outcome.{Outcome, Condition, ◌when◌, judged, kept}
use Rattle.rounds.specs.Rounds.{chosen}
use Rattle.work_area.specs.Area.{cleared}
use Rattle.batch.specs.Codes.{size_n, decode_of}
use Rattle.batch.specs.Calls.{rule_not_of_code}
use Rattle.first_reason.specs.declared.Reason.{Reason}
use Rattle.reason.specs.Under.{reason_under}

-- a frame as it is handed over, and the memory lent: N places for the word, and the work area
pub record Asked : Type 0 where
  pub code : ℕ
  pub rule : ℕ
  pub scale : Float
  pub limit : ℕ
  pub values : List Float
  pub word : List ℕ
  pub work : List Float

abbrev pub asked : ℕ → ℕ → Float → ℕ → List Float → List ℕ → List Float → Asked
asked code rule scale limit values word work = record {
  code = code;
  rule = rule;
  scale = scale;
  limit = limit;
  values = values;
  word = word;
  work = work;
}

-- 1 code not 0-3, 2 rule above 4, 3 a rule not of the code, 4 values not N, 8 the word's places not N, 9 work area too short
unfoldable pub refusals : Asked → List Condition
refusals a =
    (1 when ltb 3 a.code)
    ∷ (2 when ltb 4 a.rule)
    ∷ (3 when rule_not_of_code a.code a.rule)
    ∷ (4 when not (eqb (length a.values) (size_n a.code)))
    ∷ (8 when not (eqb (length a.word) (size_n a.code)))
    ∷ (9 when ltb (length a.work) 3070)
    ∷ []

-- what the call answers and leaves: the reason, the chosen word's N bits, and the work area cleared; "lent memory is unchanged" where it is refused
pub record Answered (a : Asked) (answer : Outcome Reason) (word : List ℕ) (work : List Float) : Type 0 where
  pub says : answer ≡ judged (refusals a) (reason_under a.code a.rule a.scale a.values a.limit)
  pub its_word : word ≡ kept (refusals a) a.word (chosen (decode_of a.code a.rule a.scale a.values) a.limit)
  pub its_work : work ≡ kept (refusals a) a.work (cleared a.work)
