-- `batch_refusals::rule_not_of_code` meets its contract, test by test. Assumes nothing.
use borrow.Author.Tests.{eq-eqb, ne_eqb}
use Rattle.batch_refusals.specs.Refusals.{rule_not_of_code}
use Rattle.batch_refusals.proofs.rule_not_of_code.Goals as goal

pub returns-then-code-ne3 : goal.returns-then-code-ne3
unfolding rule_not_of_code
returns-then-code-ne3 c = simp (ne_eqb _ _ c.if-code-ne3.true)

pub returns-then-rule-eq1 : goal.returns-then-rule-eq1
unfolding rule_not_of_code
returns-then-rule-eq1 c = simp (eq-eqb _ _ c.if-code-ne3.false, eq-eqb _ _ c.if-rule-eq1.true)

pub returns : goal.returns
unfolding rule_not_of_code
returns c = simp (eq-eqb _ _ c.if-code-ne3.false, ne_eqb _ _ c.if-rule-eq1.false)
