-- `grouping::sizes_fault` meets its contract. The invariant: the sizes are wrong exactly if those that are left are, for the frames that are left.
use Rattle.std.proofs.Common.{◌<◌, get_or, arith}
use Rattle.grouping.proofs.Sizes.{rest_next}
use Rattle.grouping.proofs.sizes_fault.Goals as goal

pub loop-n-preserved : goal.loop-n-preserved
loop-n-preserved c =
    let some : 0 < get_or c.args.sizes.now c.loop-n.n-index 0 = omega arith in
    (omega arith, rest_next _ _ _ _ c.loop-n.invariant.1 c.loop-n-test.true (omega arith) (omega arith))
