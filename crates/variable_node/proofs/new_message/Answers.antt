-- `variable_node::new_message` meets its contract: in each arm the kind is the one matched. Assumes nothing.

use Rattle.variable_node.specs.Passes.{message_to}
use Rattle.variable_node.proofs.new_message.Goals as goal

pub returns-in-Total : goal.returns-in-Total
unfolding message_to
returns-in-Total c = rw c.in-Total.is

pub returns-in-Others : goal.returns-in-Others
unfolding message_to
returns-in-Others c = rw c.in-Others.is
