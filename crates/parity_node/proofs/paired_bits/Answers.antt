-- `parity_node::paired_bits` meets its contract. The invariant: the parity bits below i are decided and have their new messages. Assumes nothing.
use Rattle.std.proofs.Common.{refl, arith}
use lib.Ieee.{of_bits}
use Rattle.variable_node.specs.Passes.{turns}
use Rattle.parity_node.proofs.Turns.{paired_more}
use Rattle.parity_node.proofs.paired_bits.Goals as goal

pub loop-i-init : goal.loop-i-init
unfolding turns
loop-i-init c = refl

pub loop-i-preserved : goal.loop-i-preserved
unfolding of_bits
loop-i-preserved c = paired_more _ _ _ _ c.loop-i.i _ _ _ _ _ (omega arith) refl c.loop-i.invariant c.decide.ensures
