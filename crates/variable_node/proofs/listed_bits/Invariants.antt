-- `variable_node::listed_bits` meets its contract. The invariant: the bits below b are decided and have their new messages. Assumes nothing.
use Rattle.std.proofs.Common.{◌≡◌}
use Rattle.variable_node.specs.Passes.{turns, pass_of, three_turn}
use Rattle.variable_node.proofs.listed_bits.Given as goal

abbrev pub invariant-loop-b : goal.invariant-loop-b
invariant-loop-b l = pass_of l.hard l.messages ≡ turns (three_turn l.kind l.llr l.table) l.b (pass_of l.initial.hard l.initial.messages)
