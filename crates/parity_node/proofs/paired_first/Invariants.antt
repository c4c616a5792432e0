-- `parity_node::paired_first` meets its contract. The invariant: the parity bits below i have their first messages. Assumes nothing.
use Rattle.std.proofs.Common.{◌≡◌}
use Rattle.variable_node.specs.Passes.{turns}
use Rattle.parity_node.specs.Parity.{parity_first}
use Rattle.parity_node.proofs.paired_first.Given as goal

abbrev pub invariant-loop-i : goal.invariant-loop-i
invariant-loop-i l = l.messages ≡ turns (parity_first l.llr l.k l.m l.from) l.i l.initial.messages
