-- The calls of the decoders as C sees them: the number that is answered, and what is left in the memory lent.
use Rattle.std.specs.Prelude.{◌≡◌, List, ℕ, Float, ℤ}
use Rattle.refusal.specs.Outcome.{judged, kept}
use Rattle.rounds.specs.Rounds.{chosen, chosen_bits}
use Rattle.rounds.specs.Told.{told}
use Rattle.work_area.specs.Area.{cleared}
use Rattle.decoders.specs.Calls.{Single}
use Rattle.batch.specs.Codes.{decode_of}
use Rattle.batch.specs.Calls as batch
use Rattle.reason.specs.Under.{reason_under}
use Rattle.reason.specs.Calls as reason
use Rattle.groups.specs.Groups.{group_refusals, overwritten}
use Rattle.coded.specs.Coded.{coded_unit, Lent}
use Rattle.coded_parts.specs.Parts.{Decodes, Explains}

-- a single decode
pub record DecodeCall (s : Single) (n : ℤ) (rounds first : Lent) (bits : List ℕ) (work : List Float) : Type 0 where
  pub tells : Decodes (judged s.refusals (told s.decode s.limit)) n rounds first
  pub its_bits : bits ≡ kept s.refusals s.bits (chosen_bits s.decode s.limit s.size)
  pub its_work : work ≡ kept s.refusals s.work (cleared s.work)

-- a batch
pub record BatchCall (b : batch.Batch) (n : ℤ) (left : batch.Lent) : Type 0 where
  pub says : n ≡ coded_unit (judged (batch.refusals b) tt)
  pub leaves : left ≡ kept (batch.refusals b) b.memory (batch.written b)

-- a batch with a list of group sizes
pub record GroupsCall (b : batch.Batch) (sizes : List ℕ) (n : ℤ) (left : batch.Lent) : Type 0 where
  pub says : n ≡ coded_unit (judged (group_refusals b sizes) tt)
  pub leaves : left ≡ kept (group_refusals b sizes) b.memory (overwritten b sizes (batch.written b))

-- why a frame is open
pub record ReasonCall (a : reason.Asked) (n : ℤ) (part computed : Lent) (word : List ℕ) (work : List Float) : Type 0 where
  pub says : Explains (judged (reason.refusals a) (reason_under a.code a.rule a.scale a.values a.limit)) n part computed
  pub its_word : word ≡ kept (reason.refusals a) a.word (chosen (decode_of a.code a.rule a.scale a.values) a.limit)
  pub its_work : work ≡ kept (reason.refusals a) a.work (cleared a.work)
