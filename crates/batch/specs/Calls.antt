-- The batch (document 01, "The batch"): what is handed over, when it is refused, and what it writes otherwise.
use Rattle.std.specs.Prelude.{◌≡◌, List, map, ℕ, Float, length}
use Rattle.refusal.specs.Outcome.{Outcome, Condition, judged, kept}
use Rattle.check_places.specs.Places.{place_of}
use Rattle.tanner.specs.Flat.{joined}
use Rattle.one_round.specs.Round.{Decode}
use Rattle.rounds.specs.Rounds.{rounds_run, chosen_count, chosen_first, chosen_bits}
use Rattle.work_area.specs.Area.{cleared}
use Rattle.batch.specs.Codes.{size_k, decode_of}
use Rattle.batch.specs.Pairs.{Pair, frames_of}
use Rattle.batch_refusals.specs.declared.Room.{Room}
-- Which refusals a batch has, and in what order, is defined in crate `batch_refusals` (specs/Refusals.antt): `refusals_of` is first `head_refusals`, the
-- numbers and the lengths (1, 2, 3 by `rule_not_of_code`, 7, 8, 9), and then `pair_refusals`, the pairs one after another, each by `pair_tests` (10, 11, 12).
pub use Rattle.batch_refusals.specs.Refusals.{pair_tests, head_refusals}
unfoldable pub use Rattle.batch_refusals.specs.Refusals.{pair_refusals, rule_not_of_code, refusals_of}
-- the memory lent to a call: defined in crate `one_frame` (specs/Place.antt), as `Lent`
pub use Rattle.one_frame.specs.Place.{Lent, lent}

-- ---- what is handed over

-- a batch: its numbers, the values, the pairs that name its frames, and the memory lent
pub record Batch : Type 0 where
  pub code : ℕ
  pub rule : ℕ
  pub scale : Float
  pub limit : ℕ
  pub values : List Float
  pub pairs : List Pair
  pub memory : Lent

abbrev pub batch : ℕ → ℕ → ℕ → Float → List Float → List Pair → Lent → Batch
batch code rule limit scale values pairs memory = record {
  code = code;
  rule = rule;
  scale = scale;
  limit = limit;
  values = values;
  pairs = pairs;
  memory = memory;
}

-- ---- refusals

-- how many places are lent for each
abbrev pub room_of : Lent → Room
room_of l = record { bits = length l.bits; counts = length l.counts; rounds = length l.rounds; firsts = length l.firsts; work = length l.work }

-- those of a batch, in the order in which they are tested: "Lowest number first" (`refusals_of` above)
abbrev pub refusals : Batch → List Condition
refusals b = refusals_of b.code b.rule (length b.values) b.pairs (room_of b.memory)

-- ---- what is written

-- the values of the frames, in place order
abbrev pub frames : Batch → List (List Float)
frames b = frames_of b.values b.pairs

-- what is decoded of a frame: of its values, the code, the rule and the scale alone
abbrev pub frame_decode : Batch → List Float → Decode
frame_decode b llr = decode_of b.code b.rule b.scale llr

-- its message bits, its count, its rounds run and its first unsatisfied check under the batch's limit
abbrev pub frame_bits : Batch → List Float → List ℕ
frame_bits b llr = chosen_bits (frame_decode b llr) b.limit (size_k b.code)

abbrev pub frame_count : Batch → List Float → ℕ
frame_count b llr = chosen_count (frame_decode b llr) b.limit

abbrev pub frame_rounds : Batch → List Float → ℕ
frame_rounds b llr = rounds_run (frame_decode b llr) b.limit

abbrev pub frame_first : Batch → List Float → ℕ
frame_first b llr = place_of (chosen_first (frame_decode b llr) b.limit)

-- "Frame j's K bits go to bytes j times K onward .., its count, a u16, to place j." The work area: "its first 3,070 are +0.0 and the rest are unchanged".
-- Of a call with groups these are the numbers, and the bits before the overwriting (change request N13, crate `groups`).
unfoldable pub written : Batch → Lent
written b = record {
  bits = joined (map (frame_bits b) (frames b));
  counts = map (frame_count b) (frames b);
  rounds = map (frame_rounds b) (frames b);
  firsts = map (frame_first b) (frames b);
  work = cleared b.memory.work;
}

-- ---- the calls

-- what the call answers and leaves in the memory lent to it: "The answer carries the number and no count; lent memory is unchanged" where it is refused
pub record Answered (b : Batch) (answer : Outcome Unit) (left : Lent) : Type 0 where
  pub says : answer ≡ judged (refusals b) tt
  pub leaves : left ≡ kept (refusals b) b.memory (written b)
