-- `softmath::turn_sign` meets its contract: each arm returns what the definition picks where the test is as the arm found it.
-- Assumes nothing.
use Rattle.softmath.proofs.turn_sign.Goals as goal

pub returns-then-v : goal.returns-then-v
returns-then-v c = simp c.if-v.true

pub returns-else-v : goal.returns-else-v
returns-else-v c = simp c.if-v.false
