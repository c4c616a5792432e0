-- The totals of batches: what is said of any calls that were made. (Change request N5: "Where no limit is passed, joining the totals of two batches equals
-- the totals of all their frames.")
use Rattle.std.specs.Prelude.{◌≡◌, List, ◌++◌, map, Float}
use Rattle.refusal.specs.Outcome.{Outcome, judged}
use Rattle.batch.specs.Calls.{Batch, frames, frame_count, frame_rounds, frame_bits}
use Rattle.batch.specs.Promise.{Call, Accepted}
use Rattle.clean.specs.Clean.{frame_clean}
use Rattle.figures.specs.Totals.{Frame, totals_of, sums, join_refusals}
use Rattle.figures.specs.declared.Totals.{Totals}
use Rattle.batch_figures.specs.Results.{left, batch_frames, added}

-- ---- the frames of a call, and their totals

-- by what the call left
abbrev pub frames_of_call : Call → List Frame
frames_of_call c = batch_frames (left c.handed c.left)

abbrev pub totals_of_call : Call → Totals
totals_of_call c = totals_of (frames_of_call c)

-- by the definition of a decode: a frame of these values, under the batch's rule and limit
abbrev pub frame_of : Batch → List Float → Frame
frame_of b values = record {
  count = frame_count b values;
  rounds = frame_rounds b values;
  clean = frame_clean b.code values (frame_count b values) (frame_bits b values);
}

-- of an accepted call the two are the same frames
abbrev pub AsDecoded : Call → Type 0
AsDecoded c = Accepted c → frames_of_call c ≡ map (frame_of c.handed) (frames c.handed)

-- ---- two batches

-- the answer that "joining the totals of two batches equals the totals of all their frames" gives: these, "where no limit is passed", and else 14
abbrev pub all_frames : Call → Call → Outcome Totals
all_frames a b = judged (join_refusals (totals_of_call a) (totals_of_call b)) (totals_of (frames_of_call a ++ frames_of_call b))

-- it is what joining the totals answers
abbrev pub Joined : Call → Call → Type 0
Joined a b = judged (join_refusals (totals_of_call a) (totals_of_call b)) (sums (totals_of_call a) (totals_of_call b)) ≡ all_frames a b

-- and what adding the second batch, if it was accepted, to the total of the first answers: none of the other refusals is met
abbrev pub Added : Call → Call → Type 0
Added a b = Accepted b → added (totals_of_call a) (left b.handed b.left) ≡ all_frames a b
