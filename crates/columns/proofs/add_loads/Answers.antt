-- `columns::add_loads` meets its contract: one row after another is counted, and each has a load with room.
use Rattle.std.proofs.Common.{arith}
use Rattle.lists.specs.Below.{Below}
use Rattle.columns.proofs.Marks.{loaded-none, loaded-more, loaded-room}
use Rattle.columns.proofs.add_loads.Goals as goal

pub loop-r-init : goal.loop-r-init
loop-r-init c = loaded-none _

pub bounds-loads-r : goal.bounds-loads-r
unfolding Below
bounds-loads-r c = omega (arith, c.requires.below c.loop-r.r-index c.loop-r-test.true)

pub overflow_add-loads : goal.overflow_add-loads
overflow_add-loads c =
    let pre = c.requires in
    omega (arith, loaded-room _ _ _ _ c.loop-r-test.true c.loop-r.auto.loads pre.below pre.room c.loop-r.invariant)

pub bounds-loads-r-in-loop-r : goal.bounds-loads-r-in-loop-r
unfolding Below
bounds-loads-r-in-loop-r c = omega (arith, c.requires.below c.loop-r.r-index c.loop-r-test.true)

pub loop-r-preserved : goal.loop-r-preserved
loop-r-preserved c = loaded-more _ _ _ _ c.loop-r-test.true c.loop-r.auto.loads c.loop-r.invariant
