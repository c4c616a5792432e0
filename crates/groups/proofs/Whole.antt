-- The call as a whole: the batch's tests and then those of the sizes; what a refused and an accepted call leave. Assumes nothing.
use mathlib.Core.Path.{◌≡◌, sym, ap, ◌∙◌}
use mathlib.Core.List.{List, ◌++◌}
use Prim.Native.Nat.{ℕ}
use lib.ListN.{length}
use Rattle.refusal.specs.Outcome.{Outcome, refused, Condition}
use Rattle.refusal.proofs.Judged.{verdict, nothing, judged_past, judged-front, kept_refused, kept_accepted, accepted_front, accepted_rest}
use Rattle.batch.specs.Codes.{size_k}
use Rattle.batch.specs.Calls.{Lent, lent, Batch, refusals, written}
use Rattle.batch.specs.Calls as batch
use Rattle.grouping.specs.Grouping.{size_refusals, delivered}
use Rattle.groups.specs.Groups.{group_refusals, clean_list, overwritten, Answered}

-- the two runs of tests, one after the other
module _ (head : List Condition) (frames : ℕ) (sizes : List ℕ) where
  pub head-refused : (k : ℕ) → verdict head ≡ refused k → verdict (head ++ size_refusals frames sizes) ≡ refused k
  head-refused k e = judged-front head (size_refusals frames sizes) tt k e

  pub head_passed : verdict head ≡ nothing → verdict (head ++ size_refusals frames sizes) ≡ verdict (size_refusals frames sizes)
  head_passed e = judged_past head (size_refusals frames sizes) tt e

module _ (b : Batch) (sizes : List ℕ) where
  pub turned_down : (k : ℕ) → verdict (group_refusals b sizes) ≡ refused k → Answered b sizes (refused k) b.memory
  turned_down k v = record { says = sym v; leaves = sym (kept_refused (group_refusals b sizes) b.memory (overwritten b sizes (written b)) k v) }

  -- where no test found anything
  module _ (v : verdict (group_refusals b sizes) ≡ nothing) where
    pub batch-passed : verdict (refusals b) ≡ nothing
    batch-passed = accepted_front (refusals b) (size_refusals (length b.pairs) sizes) v

    pub sizes-passed : verdict (size_refusals (length b.pairs) sizes) ≡ nothing
    sizes-passed = accepted_rest (refusals b) (size_refusals (length b.pairs) sizes) v

    pub carried-out : (answer : Outcome Unit) (bits : List ℕ) (wrote : Lent) → batch.Answered b answer wrote
        → bits ≡ delivered (size_k b.code) sizes (clean_list b wrote) wrote.bits
        → Answered b sizes answer (lent bits wrote.counts wrote.rounds wrote.firsts wrote.work)
    unfolding overwritten
    carried-out answer bits wrote a e =
        let done : wrote ≡ written b = a.leaves ∙ kept_accepted (refusals b) b.memory (written b) batch-passed in
        let with-bits : List ℕ → Lent = λ l. lent l wrote.counts wrote.rounds wrote.firsts wrote.work in
        record {
          says = a.says ∙ batch-passed ∙ sym v;
          leaves = ap with-bits e ∙ ap (overwritten b sizes) done ∙ sym (kept_accepted (group_refusals b sizes) b.memory (overwritten b sizes (written b)) v);
        }
