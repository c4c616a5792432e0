-- `softmath::factor_of` meets its contract: in each arm the rule is the one matched. Assumes nothing.
use Rattle.std.proofs.Common.{rules, inl, inr}
use lib.Ieee.{of_bits}
use Rattle.softmath.specs.CheckNode.{factor_of}
use Rattle.softmath.proofs.factor_of.Goals as goal

pub returns-in-ScaledMinSum : goal.returns-in-ScaledMinSum
unfolding factor_of of_bits
returns-in-ScaledMinSum c = search rules

pub returns-in-SumProduct : goal.returns-in-SumProduct
unfolding factor_of of_bits
returns-in-SumProduct c = elim c.in-SumProduct.is [ inl e ↦ rw e | inr f ↦ elim f [ inl e ↦ rw e | inr e ↦ rw e ] ]
