-- A batch with a list of group sizes (change request N13): "One grading move may need several frames, and half a move is worse than none."
use Rattle.std.specs.Prelude.{◌≡◌, Bool, List, [], ◌∷◌, ◌++◌, ℕ, zero, suc, length}
use Rattle.refusal.specs.Outcome.{Outcome, Condition, judged, kept}
use Rattle.batch.specs.Codes.{size_k}
use Rattle.batch.specs.Calls.{Lent, Batch, refusals, frames, written}
use Rattle.clean_frames.specs.CleanFrames.{clean_of}
use Rattle.grouping.specs.Grouping.{size_refusals, delivered}

-- ---- refusals

-- "Tested after 12": after all that the batch tests
abbrev pub group_refusals : Batch → List ℕ → List Condition
group_refusals b sizes = refusals b ++ size_refusals (length b.pairs) sizes

-- ---- what is written

-- whether each of n frames is clean, from place j on
unfoldable pub clean_from : (ℕ → Bool) → ℕ → ℕ → List Bool
clean_from clean j zero = []
clean_from clean j (suc n) = clean j ∷ clean_from clean (suc j) n

-- whether each frame of a batch is clean (N2's word), by the counts and the bits that the batch wrote
abbrev pub clean_list : Batch → Lent → List Bool
clean_list b wrote = clean_from (clean_of b.code (frames b) wrote.counts wrote.bits) 0 (length b.pairs)

-- of what the batch wrote, the bits are overwritten, and "Counts, rounds and first checks are given as before", as the work area is
unfoldable pub overwritten : Batch → List ℕ → Lent → Lent
overwritten b sizes wrote = record {
  bits = delivered (size_k b.code) sizes (clean_list b wrote) wrote.bits;
  counts = wrote.counts;
  rounds = wrote.rounds;
  firsts = wrote.firsts;
  work = wrote.work;
}

-- ---- the call

-- what the call answers and leaves in the memory lent to it
pub record Answered (b : Batch) (sizes : List ℕ) (answer : Outcome Unit) (left : Lent) : Type 0 where
  pub says : answer ≡ judged (group_refusals b sizes) tt
  pub leaves : left ≡ kept (group_refusals b sizes) b.memory (overwritten b sizes (written b))
