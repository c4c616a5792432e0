-- `filling::above_two` meets its contract. The invariant: whether a byte of the rest is above 2 is whether one is. Assumes nothing.
use Rattle.filling.proofs.Steps.{above-found, above_more, above-done}
use Rattle.filling.proofs.above_two.Goals as goal

pub returns-then-b-gt2 : goal.returns-then-b-gt2
returns-then-b-gt2 c = above-found _ _ c.loop-b.invariant c.loop-b-test.true c.if-b-gt2.true

pub loop-b-preserved : goal.loop-b-preserved
loop-b-preserved c = above_more _ _ c.loop-b.invariant c.loop-b-test.true c.if-b-gt2.false

pub returns : goal.returns
returns c = above-done _ _ c.loop-b.invariant c.loop-b-test.false
