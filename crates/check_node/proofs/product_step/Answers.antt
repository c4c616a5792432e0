-- `check_node::product_step` meets its contract: the three passes one after the other, down each column. Assumes nothing.
use Rattle.check_node.proofs.Steps.{three_passes}
use Rattle.check_node.proofs.product_step.Goals as goal

pub returns : goal.returns
returns c = three_passes c.args.rule c.args.m c.args.d _ _ _ _ c.requires.ts_value c.requires.work_len
    c.before_checks.ensures c.products_slots.ensures c.after_checks.ensures
