-- `parity_node::parity_bits` meets its contract: the last bit after the others. Assumes nothing.
use lib.Ieee.{of_bits}
use Rattle.parity_node.proofs.Turns.{last_more}
use Rattle.parity_node.proofs.parity_bits.Goals as goal

pub returns : goal.returns
unfolding of_bits
returns c = last_more _ _ _ _ _ _ _ _ c.requires.paired.some c.paired_bits.ensures c.decide.ensures
