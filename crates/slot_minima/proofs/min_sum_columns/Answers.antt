-- `slot_minima::min_sum_columns` meets its contract. The invariant: the checks so far are answered. Assumes nothing.
use Rattle.slots.proofs.EachColumn.{done_none, done_more, done_all}
use Rattle.slot_minima.proofs.min_sum_columns.Goals as goal

pub loop-c-init : goal.loop-c-init
loop-c-init c = done_none _ _ _ _

pub loop-c-preserved : goal.loop-c-preserved
loop-c-preserved c = done_more _ _ _ _ _ _ _ c.loop-c-test.true c.min_sum_column.ensures c.loop-c.invariant

pub returns : goal.returns
returns c = done_all _ _ _ _ _ _ c.loop-c-test.false c.loop-c.invariant
