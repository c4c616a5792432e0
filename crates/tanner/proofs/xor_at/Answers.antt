-- `tanner::xor_at` meets its contract. The invariant: what is XORed so far, with the rest XORed on, is the whole. Assumes nothing.
use Rattle.std.proofs.Common.{arith}
use Rattle.lists.specs.Below.{Below}
use Rattle.tanner.proofs.Steps.{xor_more, xor-done}
use Rattle.tanner.proofs.xor_at.Goals as goal

pub bounds-bytes-p : goal.bounds-bytes-p
unfolding Below
bounds-bytes-p c = c.requires c.loop-p.p-index (omega arith)

pub loop-p-preserved : goal.loop-p-preserved
loop-p-preserved c = xor_more _ _ _ _ _ c.loop-p-test.true c.loop-p.invariant

pub returns : goal.returns
returns c = xor-done _ _ _ _ _ c.loop-p-test.false c.loop-p.invariant
