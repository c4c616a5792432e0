-- `check_node::check_step` meets its contract: the pads are set, and in each arm the step is the rule's. Assumes nothing.
use Rattle.std.proofs.Common.{rules, inl, inr}
use Rattle.check_node.proofs.Steps.{multiplies, takes_minima, padded_step}
use Rattle.check_node.proofs.check_step.Goals as goal

pub product_step-requires : goal.product_step-requires
product_step-requires c = record { ts_value = multiplies _ (inl c.in-SumProduct.is); work_len = search rules }

pub product_step-requires-in-Ft8 : goal.product_step-requires-in-Ft8
product_step-requires-in-Ft8 c = record { ts_value = multiplies _ (inr c.in-Ft8.is); work_len = search rules }

pub returns-in-MinSum : goal.returns-in-MinSum
returns-in-MinSum c =
    padded_step c.args.rule _ _ _ _ _ _ _ _ (takes_minima _ (inl c.in-MinSum.is)) c.pad_of.ensures c.scatter.ensures c.min_sum_step.ensures

pub returns-in-ScaledMinSum : goal.returns-in-ScaledMinSum
returns-in-ScaledMinSum c =
    padded_step c.args.rule _ _ _ _ _ _ _ _ (takes_minima _ (inr (_, c.in-ScaledMinSum.is))) c.pad_of.ensures c.scatter.ensures
    c.min_sum_step-in-ScaledMinSum.ensures
