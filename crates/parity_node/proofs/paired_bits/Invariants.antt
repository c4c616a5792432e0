-- `parity_node::paired_bits` meets its contract. The invariant: the parity bits below i are decided and have their new messages. Assumes nothing.
use Rattle.std.proofs.Common.{◌≡◌}
use Rattle.variable_node.specs.Passes.{turns, pass_of}
use Rattle.parity_node.specs.Parity.{parity_turn}
use Rattle.parity_node.proofs.paired_bits.Given as goal

abbrev pub invariant-loop-i : goal.invariant-loop-i
invariant-loop-i l = pass_of l.hard l.messages ≡ turns (parity_turn l.llr l.k l.m l.from) l.i (pass_of l.initial.hard l.initial.messages)
