-- `columns::mark_rows` meets its contract: one store after another.
use Rattle.std.proofs.Common.{arith}
use Rattle.lists.specs.Below.{Below}
use Rattle.columns.proofs.Marks.{marked-none, marked_more}
use Rattle.columns.proofs.mark_rows.Goals as goal

pub loop-r-init : goal.loop-r-init
loop-r-init c = marked-none _

pub bounds-marks-r : goal.bounds-marks-r
unfolding Below
bounds-marks-r c = omega (arith, c.requires c.loop-r.r-index c.loop-r-test.true)

pub loop-r-preserved : goal.loop-r-preserved
loop-r-preserved c = marked_more _ _ _ _ c.loop-r-test.true c.loop-r.auto.marks c.loop-r.invariant
