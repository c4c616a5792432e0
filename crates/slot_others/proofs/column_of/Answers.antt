-- `slot_others::column_of` meets its contract. The invariant: the entries so far are taken. Assumes nothing.
use Rattle.std.proofs.Common.{arith}
use Rattle.slot_others.proofs.OneColumn.{taken_more, taken_all}
use Rattle.slot_others.proofs.column_of.Goals as goal

pub loop-j-preserved : goal.loop-j-preserved
loop-j-preserved c = taken_more _ _ _ _ _ _ c.loop-j-test.true (omega arith) c.loop-j.invariant

pub returns : goal.returns
returns c = taken_all _ _ _ _ _ _ c.loop-j-test.false (omega arith) c.loop-j.invariant
