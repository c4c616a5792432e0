-- `slot_minima::see_column` meets its contract. The invariant: the messages so far are seen. Assumes nothing.
use lib.Ieee.{div, of_bits}
use Rattle.slot_minima.proofs.Seeing.{seen_none, seen_more, seen_all}
use Rattle.slot_minima.proofs.see_column.Goals as goal

pub loop-j-init : goal.loop-j-init
unfolding div of_bits
loop-j-init c = seen_none _ _ _ _

pub loop-j-preserved : goal.loop-j-preserved
loop-j-preserved c = seen_more _ _ _ _ _ _ _ c.loop-j-test.true (c.type_inv.work _) c.note-kept.ensures c.loop-j.invariant

pub returns : goal.returns
returns c = let r = seen_all _ _ _ _ _ _ c.loop-j-test.false c.loop-j.invariant in record { value = r.0; fit = r.1 }
