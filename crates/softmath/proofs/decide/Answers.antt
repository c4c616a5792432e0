-- `softmath::decide` meets its contract: each arm returns what the definition picks where the test is as the arm found it.
-- Assumes nothing.
use Rattle.softmath.specs.Functions.{decide}
use Rattle.softmath.proofs.decide.Goals as goal

pub returns-then-x : goal.returns-then-x
unfolding decide
returns-then-x c = simp c.if-x.true

pub returns-else-x : goal.returns-else-x
unfolding decide
returns-else-x c = simp c.if-x.false
