-- `check_node::scatter` meets its contract. The invariant: the value at the places that are left, put into the work area, is the answer. Assumes nothing.
use Rattle.std.proofs.Common.{arith}
use Rattle.lists.specs.Below.{Below}
use Rattle.check_node.proofs.PadsSet.{scatter_more, scatter_done}
use Rattle.check_node.proofs.scatter.Goals as goal

pub bounds-work-p : goal.bounds-work-p
unfolding Below
bounds-work-p c = omega (arith, c.requires c.loop-p.p-index (omega arith))

pub loop-p-preserved : goal.loop-p-preserved
loop-p-preserved c = scatter_more _ _ _ _ _ c.loop-p-test.true c.loop-p.invariant

pub returns : goal.returns
returns c = scatter_done _ _ _ _ _ c.loop-p-test.false c.loop-p.invariant
