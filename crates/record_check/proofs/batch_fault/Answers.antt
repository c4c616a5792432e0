-- `record_check::batch_fault` meets its contract: the numbers and the lengths decide where they are refused, else the records, each looked at in a turn of the
-- loop. Assumes nothing.
use Rattle.std.proofs.Common.{◌∙◌}
use Rattle.refusal.specs.Answers.{outcome_of}
use Rattle.refusal.proofs.Exits.{exit}
use Rattle.batch_refusals.proofs.Pairs.{seen-pairs, one-checked, all-checked}
use Rattle.record_check.specs.Fields.{pair_of}
use Rattle.record_check.proofs.Types.{none}
use Rattle.record_check.proofs.Answers.{refused-by, by-pairs}
use Rattle.record_check.proofs.batch_fault.Goals as goal

pub returns-in_err-head_fault : goal.returns-in_err-head_fault
returns-in_err-head_fault c = let a = c.args in
    exit c.from_residual.result _ c.from_residual.ensures.1
    ∙ refused-by a.code a.rule a.values a.pairs.now a.room c.in_err-head_fault.ensures

pub loop-p-init : goal.loop-p-init
loop-p-init c = seen-pairs _ _ 0 _

pub loop-p-preserved : goal.loop-p-preserved
loop-p-preserved c =
    one-checked pair_of _ _ c.args.pairs.now c.loop-p.p-index (outcome_of c.loop-p.seen) none c.loop-p-test.true c.next_record-seen.ensures c.loop-p.invariant

pub returns : goal.returns
returns c = let a = c.args in
    by-pairs a.code a.rule a.values a.pairs.now a.room c.in_ok-head_fault.ensures c.frame_values-n.ensures
    (c.seen_all.ensures ∙ all-checked pair_of _ _ a.pairs.now c.loop-p.p-index (outcome_of c.loop-p.seen) c.loop-p-test.false c.loop-p.invariant)
