-- `check_node::pad_of` meets its contract: in each arm the rule is one of those matched, and the infinity's bits are computed. Assumes nothing.
use Rattle.std.proofs.Common.{inl, inr}
use lib.Ieee.{of_bits}
use Rattle.check_node.specs.CheckStep.{pad_of}
use Rattle.check_node.proofs.pad_of.Goals as goal

pub returns-in-SumProduct : goal.returns-in-SumProduct
unfolding pad_of of_bits
returns-in-SumProduct c = elim c.in-SumProduct.is [ inl e ↦ rw e | inr f ↦ elim f [ inl e ↦ rw e | inr s ↦ rw s.1 ] ]

pub returns-in-Ft8 : goal.returns-in-Ft8
unfolding pad_of of_bits
returns-in-Ft8 c = rw c.in-Ft8.is
