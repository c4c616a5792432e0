-- A batch as a whole: what is known of one that is not refused, and what a refused and an accepted call leave. Assumes nothing.
use mathlib.Core.Path.{◌≡◌, sym, subst, ◌∙◌}
use mathlib.Core.List.{List}
use Prim.Native.Nat.{ℕ}
use lib.Ieee.{Float}
use lib.ListN.{length}
use Rattle.refusal.specs.Outcome.{Outcome, refused}
use Rattle.refusal.proofs.Judged.{verdict, nothing, kept_refused, kept_accepted}
use Rattle.batch.specs.Pairs.{Pair}
use Rattle.batch.specs.Calls.{Lent, Batch, batch, room_of, refusals, written, Answered}
use Rattle.batch.specs.Steps.{Fitting}
-- the refusals as a whole: the numbers and lengths first, then the pairs
pub use Rattle.batch_refusals.proofs.Whole.{HeadGood, head-refused, head_passed, all-good, all-inside}

-- the answer and the lent memory, where the call is refused and where it is accepted
module _ (b : Batch) where
  pub fitting : verdict (refusals b) ≡ nothing → Fitting b
  fitting v =
      let g = all-good b.code b.rule (length b.values) b.pairs (room_of b.memory) v in
      record {
        known = g.known;
        inside = all-inside b.code b.rule (length b.values) b.pairs (room_of b.memory) v;
        bits = g.bits;
        counts = g.counts;
        rounds = g.rounds;
        firsts = g.firsts;
        area = g.area;
      }

  pub turned_down : (k : ℕ) → verdict (refusals b) ≡ refused k → Answered b (refused k) b.memory
  turned_down k v = record { says = sym v; leaves = sym (kept_refused (refusals b) b.memory (written b) k v) }

  pub carried-out : verdict (refusals b) ≡ nothing → (left : Lent) → left ≡ written b → Answered b nothing left
  carried-out v left e = record { says = sym v; leaves = e ∙ sym (kept_accepted (refusals b) b.memory (written b) v) }

  pub accepted-left : (left : Lent) → Answered b nothing left → left ≡ written b
  accepted-left left a = a.leaves ∙ kept_accepted (refusals b) b.memory (written b) (sym a.says)

-- a call at a rule that equals another is a call at that one
pub at_rule : {code rule meant limit : ℕ} {scale : Float} {values : List Float} {pairs : List Pair} {memory left : Lent} {answer : Outcome Unit} → rule ≡ meant
    → Answered (batch code rule limit scale values pairs memory) answer left → Answered (batch code meant limit scale values pairs memory) answer left
at_rule {code} {limit = limit} {scale} {values} {pairs} {memory} {left} {answer} e a =
    subst (λ (r : ℕ). Answered (batch code r limit scale values pairs memory) answer left) e a
