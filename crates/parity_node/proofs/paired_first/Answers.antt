-- `parity_node::paired_first` meets its contract. The invariant: the parity bits below i have their first messages. Assumes nothing.
use Rattle.std.proofs.Common.{refl, arith}
use Rattle.variable_node.specs.Passes.{turns}
use Rattle.parity_node.proofs.Turns.{paired_first_more}
use Rattle.parity_node.proofs.paired_first.Goals as goal

pub loop-i-init : goal.loop-i-init
unfolding turns
loop-i-init c = refl

pub loop-i-preserved : goal.loop-i-preserved
loop-i-preserved c = paired_first_more _ _ _ _ c.loop-i.i _ _ _ (omega arith) refl c.loop-i.invariant
