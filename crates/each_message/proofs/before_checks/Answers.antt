-- `each_message::before_checks` meets its contract: in each arm the rule is the one matched.
-- Assumes nothing.
use Rattle.std.proofs.Common.{rules, sym, ◌∙◌, inl, inr}
use lib.Ieee.{neg, of_bits}
use Rattle.softmath.proofs.Steps.{before-negated, map_same}
use Rattle.softmath.specs.Single.{◌⊘◌, two32}
use Rattle.softmath.specs.Functions.{tanh}
use Rattle.softmath.specs.CheckNode.{before, half_tanh}
use Rattle.each_message.proofs.Mapped.{made_all}
use Rattle.each_message.proofs.before_checks.Goals as goal

pub returns-in-SumProduct : goal.returns-in-SumProduct
unfolding before
returns-in-SumProduct c = rw c.in-SumProduct.is (made_all half_tanh (λ x y r. search rules) _ _ c.map_in_place.ensures)

pub returns-in-Ft8 : goal.returns-in-Ft8
unfolding neg of_bits
returns-in-Ft8 c =
    rw c.in-Ft8.is (made_all (λ m. tanh (m ⊘ neg two32)) (λ x y r. search rules) _ _ c.map_in_place-in-Ft8.ensures ∙ before-negated c.args.part.now)

pub returns-in-MinSum : goal.returns-in-MinSum
unfolding before
returns-in-MinSum c = elim c.in-MinSum.is [ inl e ↦ rw e (sym (map_same _)) | inr s ↦ rw s.1 (sym (map_same _)) ]
