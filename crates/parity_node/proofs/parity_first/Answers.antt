-- `parity_node::parity_first` meets its contract: the last bit after the others. Assumes nothing.
use Rattle.parity_node.proofs.Turns.{last_first}
use Rattle.parity_node.proofs.parity_first.Goals as goal

pub returns : goal.returns
returns c = last_first _ _ _ _ _ _ c.requires.paired.some c.paired_first.ensures
