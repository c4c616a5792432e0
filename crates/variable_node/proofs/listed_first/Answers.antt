-- `variable_node::listed_first` meets its contract. The invariant: the bits below b have their first messages. Assumes nothing.
use Rattle.std.proofs.Common.{refl, ◌+◌, ◌*◌, arith}
use lib.ListN.{length-set}
use Rattle.variable_node.specs.Passes.{turns}
use Rattle.variable_node.proofs.Turns.{table-room, entry_low, listed-first_more}
use Rattle.variable_node.proofs.listed_first.Goals as goal

pub loop-b-init : goal.loop-b-init
unfolding turns
loop-b-init c = refl

-- each of the bit's three entries names a place of a message
pub bounds-messages-p : goal.bounds-messages-p
bounds-messages-p c = entry_low _ _ _ c.loop-b.b _ _ c.requires.listed c.loop-b-test.true (omega arith) c.loop-b.auto.messages

pub bounds-messages-q : goal.bounds-messages-q
bounds-messages-q c =
    simp length-set (entry_low _ _ _ c.loop-b.b (c.loop-b.b * 3 + 1) _ c.requires.listed c.loop-b-test.true (omega arith) c.loop-b.auto.messages)

pub bounds-messages-r : goal.bounds-messages-r
bounds-messages-r c =
    simp length-set (entry_low _ _ _ c.loop-b.b (c.loop-b.b * 3 + 2) _ c.requires.listed c.loop-b-test.true (omega arith) c.loop-b.auto.messages)

pub loop-b-preserved : goal.loop-b-preserved
loop-b-preserved c = listed-first_more _ _ c.loop-b.b _ _ (table-room _ _ _ _ c.requires.listed c.loop-b-test.true) c.loop-b.invariant
