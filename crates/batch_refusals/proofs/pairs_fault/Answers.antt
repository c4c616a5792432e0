-- `batch_refusals::pairs_fault` meets its contract. The invariant: what the pairs that are left come to is what all come to. Assumes nothing.
use Rattle.std.proofs.Common.{◌∙◌, []}
use Rattle.refusal.specs.Answers.{outcome_of}
use Rattle.batch_refusals.proofs.Pairs.{of-two, twos-pairs, seen-pairs, one-checked, all-checked}
use Rattle.batch_refusals.proofs.pairs_fault.Goals as goal

pub loop-offset-init : goal.loop-offset-init
loop-offset-init c = rw (c.as_chunks.ensures.front, twos-pairs c.args.pairs.now) (seen-pairs _ _ 0 _)

pub loop-offset-preserved : goal.loop-offset-preserved
loop-offset-preserved c =
    one-checked of-two _ _ _ c.loop-offset.offset-index (outcome_of c.loop-offset.seen) [] c.loop-offset-test.true c.next_pair-seen.ensures
    c.loop-offset.invariant

pub returns : goal.returns
returns c =
    c.seen_all.ensures
    ∙ all-checked of-two _ _ _ c.loop-offset.offset-index (outcome_of c.loop-offset.seen) c.loop-offset-test.false c.loop-offset.invariant
