-- `each_message::after_checks` meets its contract: in each arm the rule is the one matched.
-- Assumes nothing.
use Rattle.std.proofs.Common.{rules, sym, inl, inr}
use Rattle.softmath.proofs.Steps.{map_same}
use Rattle.softmath.specs.CheckNode.{after, clamped_answer, negated_answer}
use Rattle.each_message.proofs.Mapped.{made_all}
use Rattle.each_message.proofs.after_checks.Goals as goal

pub returns-in-SumProduct : goal.returns-in-SumProduct
unfolding after
returns-in-SumProduct c = rw c.in-SumProduct.is (made_all clamped_answer (λ x y r. search rules) _ _ c.map_in_place.ensures)

pub returns-in-Ft8 : goal.returns-in-Ft8
unfolding after
returns-in-Ft8 c = rw c.in-Ft8.is (made_all negated_answer (λ x y r. search rules) _ _ c.map_in_place-in-Ft8.ensures)

pub returns-in-MinSum : goal.returns-in-MinSum
unfolding after
returns-in-MinSum c = elim c.in-MinSum.is [ inl e ↦ rw e (sym (map_same _)) | inr s ↦ rw s.1 (sym (map_same _)) ]
