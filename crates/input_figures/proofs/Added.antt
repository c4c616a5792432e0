-- What adding an input answers, by what its batch comes to: refused as the batch is, or the sum with the frames that the batch left.
use mathlib.Core.Path.{◌≡◌, refl}
use mathlib.Core.Bool.{true, false}
use mathlib.Core.List.{List}
use Prim.Native.Nat.{ℕ}
use lib.Ieee.{Float}
use Rattle.refusal.specs.Outcome.{refused}
use Rattle.refusal.proofs.Judged.{verdict, nothing, judged_past, judged-front}
use Rattle.batch.specs.Pairs.{Pair}
use Rattle.batch.specs.Calls.{refusals, written}
use Rattle.batch.specs.Promise.{Call}
use Rattle.batch.proofs.Whole.{carried-out}
use Rattle.batch_input.specs.Input.{malformed}
use Rattle.batch_input.specs.Handed.{batch_in}
use Rattle.figures.specs.Totals.{sums, join_refusals}
use Rattle.figures.specs.declared.Totals.{Totals}
use Rattle.batch_figures.specs.Results.{results, result_refusals, added}
use Rattle.batch_figures.proofs.Batches.{not-refused}
use Rattle.input_figures.specs.Added.{input_results, input_totals, input_added}

module _ (t : Totals) (s : List ℕ) where
  -- "the program tests 13 before all"
  pub malformed-input : malformed s ≡ true → refused 13 ≡ input_added t s
  unfolding input_added
  malformed-input bad = rw bad

  module _ (good : malformed s ≡ false) where
    -- as its batch is refused
    pub refused-input : (k : ℕ) → verdict (refusals (batch_in s)) ≡ refused k → refused k ≡ input_added t s
    unfolding input_added
    refused-input k v = rw (good, judged-front (refusals (batch_in s)) (join_refusals t (input_totals s)) (sums t (input_totals s)) k v)

    -- what an accepted batch left is added
    pub added-input : verdict (refusals (batch_in s)) ≡ nothing → added t (input_results s) ≡ input_added t s
    unfolding input_added
    added-input v =
        let b = batch_in s in
        let call : Call = record { handed = b; answer = nothing; left = written b; answered = carried-out b v (written b) refl } in
        rw (good, judged_past (refusals b) (join_refusals t (input_totals s)) (sums t (input_totals s)) v)
        (judged_past (result_refusals (input_results s)) (join_refusals t (input_totals s)) (sums t (input_totals s)) (not-refused call refl))

-- results by their parts
pub results_are : (code : ℕ) {values values' : List Float} {pairs pairs' : List Pair} {bits bits' counts counts' rounds rounds' : List ℕ}
    → values ≡ values' → pairs ≡ pairs' → bits ≡ bits' → counts ≡ counts' → rounds ≡ rounds'
    → results code values pairs bits counts rounds ≡ results code values' pairs' bits' counts' rounds'
results_are code v p b c r = rw (v, p, b, c, r)
