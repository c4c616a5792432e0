-- `variable_node::listed_bits` meets its contract. The invariant: the bits below b are decided and have their new messages. Assumes nothing.
use Rattle.std.proofs.Common.{refl, ◌+◌, ◌*◌, arith}
use lib.Ieee.{of_bits}
use lib.ListN.{length-set}
use Rattle.variable_node.specs.Passes.{turns}
use Rattle.variable_node.proofs.Turns.{table-room, entry_low, listed_more}
use Rattle.variable_node.proofs.listed_bits.Goals as goal

pub loop-b-init : goal.loop-b-init
unfolding turns
loop-b-init c = refl

-- each of the bit's three entries names a place of a message: once as it is read, once as it is written
pub bounds-messages-p : goal.bounds-messages-p
bounds-messages-p c = entry_low _ _ _ c.loop-b.b _ _ c.requires.listed c.loop-b-test.true (omega arith) c.loop-b.auto.messages

pub bounds-messages-q : goal.bounds-messages-q
bounds-messages-q c = entry_low _ _ _ c.loop-b.b _ _ c.requires.listed c.loop-b-test.true (omega arith) c.loop-b.auto.messages

pub bounds-messages-r : goal.bounds-messages-r
bounds-messages-r c = entry_low _ _ _ c.loop-b.b _ _ c.requires.listed c.loop-b-test.true (omega arith) c.loop-b.auto.messages

pub bounds-messages-p-in-loop-b : goal.bounds-messages-p-in-loop-b
bounds-messages-p-in-loop-b c = entry_low _ _ _ c.loop-b.b _ _ c.requires.listed c.loop-b-test.true (omega arith) c.loop-b.auto.messages

pub bounds-messages-q-in-loop-b : goal.bounds-messages-q-in-loop-b
bounds-messages-q-in-loop-b c =
    simp length-set (entry_low _ _ _ c.loop-b.b (c.loop-b.b * 3 + 1) _ c.requires.listed c.loop-b-test.true (omega arith) c.loop-b.auto.messages)

pub bounds-messages-r-in-loop-b : goal.bounds-messages-r-in-loop-b
bounds-messages-r-in-loop-b c =
    simp length-set (entry_low _ _ _ c.loop-b.b (c.loop-b.b * 3 + 2) _ c.requires.listed c.loop-b-test.true (omega arith) c.loop-b.auto.messages)

pub loop-b-preserved : goal.loop-b-preserved
unfolding of_bits
loop-b-preserved c =
    listed_more _ _ _ c.loop-b.b (table-room _ _ _ _ c.requires.listed c.loop-b-test.true) _ _ _ _ _ _ _ c.loop-b.invariant c.decide.ensures
    c.new_message.ensures
    c.new_message-in-loop-b.ensures
    c.new_message-in-loop-b-2.ensures
