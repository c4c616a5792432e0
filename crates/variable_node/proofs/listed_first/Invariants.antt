-- `variable_node::listed_first` meets its contract. The invariant: the bits below b have their first messages. Assumes nothing.
use Rattle.std.proofs.Common.{◌≡◌}
use Rattle.variable_node.specs.Passes.{turns, three_first}
use Rattle.variable_node.proofs.listed_first.Given as goal

abbrev pub invariant-loop-b : goal.invariant-loop-b
invariant-loop-b l = l.messages ≡ turns (three_first l.llr l.table) l.b l.initial.messages
