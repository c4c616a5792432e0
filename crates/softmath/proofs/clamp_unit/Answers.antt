-- `softmath::clamp_unit` meets its contract: each arm returns what the definition picks where the tests are as the arm found them.
-- Assumes nothing.
use lib.Ieee.{neg}
use Rattle.softmath.specs.Functions.{clamp_unit}
use Rattle.softmath.proofs.clamp_unit.Goals as goal

pub returns-then-x : goal.returns-then-x
unfolding clamp_unit neg
returns-then-x c = simp c.if-x.true

pub returns-then-x-2 : goal.returns-then-x-2
unfolding clamp_unit neg
returns-then-x-2 c = simp (c.if-x.false, c.if-x-2.true)

pub returns-else-x-2 : goal.returns-else-x-2
unfolding clamp_unit neg
returns-else-x-2 c = simp (c.if-x.false, c.if-x-2.false)
