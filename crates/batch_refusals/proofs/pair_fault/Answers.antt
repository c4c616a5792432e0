-- `batch_refusals::pair_fault` meets its contract, test by test. Assumes nothing.
use borrow.Author.Tests.{lt-ltb, le-ltb, eq-eqb, ne_eqb}
use Rattle.batch_refusals.proofs.pair_fault.Goals as goal

pub returns-then-size-n : goal.returns-then-size-n
returns-then-size-n c = simp (ne_eqb _ _ c.if-size-n.true)

pub returns-then-offset-end : goal.returns-then-offset-end
returns-then-offset-end c = simp (eq-eqb _ _ c.if-size-n.false, lt-ltb _ _ c.if-offset-end.true)

pub returns-then-values-offset : goal.returns-then-values-offset
returns-then-values-offset c = simp (eq-eqb _ _ c.if-size-n.false, le-ltb _ _ c.if-offset-end.false, lt-ltb _ _ c.if-values-offset.true)

pub returns : goal.returns
returns c = simp (eq-eqb _ _ c.if-size-n.false, le-ltb _ _ c.if-offset-end.false, le-ltb _ _ c.if-values-offset.false)
