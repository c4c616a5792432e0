-- `groups::groups_fault` meets its contract: the batch's tests, and then those of the sizes. Assumes nothing.
use mathlib.Core.Path.{sym, ap, ◌∙◌}
use mathlib.Core.List.{List}
use Prim.Native.Nat.{ℕ}
use lib.ListN.{length}
use Rattle.refusal.specs.Outcome.{Condition}
use Rattle.refusal.proofs.Exits.{exit}
use Rattle.refusal.proofs.Judged.{verdict}
use Rattle.batch.specs.Pairs.{pairs_of}
use Rattle.batch.specs.Calls.{refusals_of}
use Rattle.batch.proofs.Pairs.{pairs-length}
use Rattle.grouping.specs.Grouping.{size_refusals}
use Rattle.groups.proofs.Whole.{head-refused, head_passed}
use Rattle.groups.proofs.groups_fault.Goals as goal

pub returns-in_err-batch_fault : goal.returns-in_err-batch_fault
returns-in_err-batch_fault c =
    let a = c.args in
    let head : List Condition = refusals_of a.code a.rule a.values (pairs_of a.pairs.now) a.room in
    exit c.from_residual.result _ c.from_residual.ensures.1
    ∙ sym (head-refused head (length (pairs_of a.pairs.now)) a.sizes.now _ (sym c.in_err-batch_fault.ensures))

pub returns : goal.returns
returns c =
    let a = c.args in
    let head : List Condition = refusals_of a.code a.rule a.values (pairs_of a.pairs.now) a.room in
    c.sizes_fault.ensures
    ∙ ap (λ (n : ℕ). verdict (size_refusals n a.sizes.now)) (sym (pairs-length a.pairs.now))
    ∙ sym (head_passed head (length (pairs_of a.pairs.now)) a.sizes.now (sym c.in_ok-batch_fault.ensures))
