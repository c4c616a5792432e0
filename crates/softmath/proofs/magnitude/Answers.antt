-- `softmath::magnitude` meets its contract: each arm returns the value without its sign. Assumes nothing.
use denote.Floats.{passes}
use Rattle.softmath.proofs.Signless.{above_zero, not-above}
use Rattle.softmath.proofs.magnitude.Goals as goal

pub returns-then-x : goal.returns-then-x
returns-then-x c = above_zero _ c.if-x.true

pub returns-else-x : goal.returns-else-x
returns-else-x c = not-above _ (passes _ c.well_formed.0.1) c.if-x.false
