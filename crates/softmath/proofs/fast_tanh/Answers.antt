-- `softmath::fast_tanh` meets its contract: each arm returns what the definition picks where the tests are as the arm found them.
-- Assumes nothing.
use lib.Ieee.{neg}
use Rattle.softmath.specs.Functions.{tanh}
use Rattle.softmath.proofs.fast_tanh.Goals as goal

pub returns-then-x : goal.returns-then-x
unfolding tanh neg
returns-then-x c = simp c.if-x.true

pub returns-then-x-2 : goal.returns-then-x-2
unfolding tanh neg
returns-then-x-2 c = simp (c.if-x.false, c.if-x-2.true)

pub returns-else-x-2 : goal.returns-else-x-2
unfolding tanh neg
returns-else-x-2 c = simp (c.if-x.false, c.if-x-2.false)
