-- What a batch's call left, as the reception figures count it (change request N5): its frames, and when they are refused.
use Rattle.std.specs.Prelude.{not, List, [], ◌∷◌, ◌++◌, ℕ, zero, suc, ◌*◌, eqb, ltb, Float, length, get_or}
use Rattle.refusal.specs.Outcome.{Outcome, Condition, ◌when◌, judged}
use Rattle.batch.specs.Codes.{size_n, size_k}
use Rattle.batch.specs.Pairs.{Pair, frames_of}
use Rattle.batch.specs.Calls.{Lent, Batch, pair_refusals}
use Rattle.clean_frames.specs.CleanFrames.{clean_of}
use Rattle.figures.specs.Totals.{Frame, totals_of, sums, join_refusals}
use Rattle.figures.specs.declared.Totals.{Totals}

-- ---- what is handed over

-- the values and the pairs of a batch, and what its call left for them: a frame's bits, its count and its rounds
pub record Results : Type 0 where
  pub code : ℕ
  pub values : List Float
  pub pairs : List Pair
  pub bits : List ℕ
  pub counts : List ℕ
  pub rounds : List ℕ

abbrev pub results : ℕ → List Float → List Pair → List ℕ → List ℕ → List ℕ → Results
results code values pairs bits counts rounds = record { code = code; values = values; pairs = pairs; bits = bits; counts = counts; rounds = rounds }

-- of a batch, and what its call left in the memory lent
abbrev pub left : Batch → Lent → Results
left b l = results b.code b.values b.pairs l.bits l.counts l.rounds

-- ---- the frames

-- the frame at place j: its count, its rounds, and whether it is clean (change request N2)
abbrev pub frame_at : Results → ℕ → Frame
frame_at r j = record {
  count = get_or r.counts j 0;
  rounds = get_or r.rounds j 0;
  clean = clean_of r.code (frames_of r.values r.pairs) r.counts r.bits j;
}

-- n frames, the first that of place j
unfoldable pub frames_from : (ℕ → Frame) → ℕ → ℕ → List Frame
frames_from frame j zero = []
frames_from frame j (suc n) = frame j ∷ frames_from frame (suc j) n

-- one frame a pair, in place order
unfoldable pub batch_frames : Results → List Frame
batch_frames r = frames_from (frame_at r) 0 (length r.pairs)

-- ---- the call that adds them to a total

-- Each as the batch itself refuses it, in its order: "1: code not .. 0-3", "7: over 24 pairs", "8: an output not exactly its length" (the outputs of the
-- batch that are handed over), and 10 to 12 "pair by pair".
unfoldable pub result_refusals : Results → List Condition
result_refusals r =
    (1 when ltb 3 r.code)
    ∷ (7 when ltb 24 (length r.pairs))
    ∷ (8 when not (eqb (length r.bits) (length r.pairs * size_k r.code)))
    ∷ (8 when not (eqb (length r.counts) (length r.pairs)))
    ∷ (8 when not (eqb (length r.rounds) (length r.pairs)))
    ∷ pair_refusals (size_n r.code) (length r.values) 0 r.pairs

-- "14 when a sum would pass its limit", tested last
abbrev pub add_refusals : Totals → Results → List Condition
add_refusals t r = result_refusals r ++ join_refusals t (totals_of (batch_frames r))

-- the total with the batch's frames; where a number is answered, it is "as before"
abbrev pub added : Totals → Results → Outcome Totals
added t r = judged (add_refusals t r) (sums t (totals_of (batch_frames r)))
