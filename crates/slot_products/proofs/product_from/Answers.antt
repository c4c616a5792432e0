-- `slot_products::product_from` meets its contract. The invariant: the product so far, times the entries that are left, is the whole. Assumes nothing.
use Rattle.slot_products.proofs.Products.{factor-more, factor-none}
use Rattle.slot_products.proofs.product_from.Goals as goal

pub loop-j-preserved : goal.loop-j-preserved
loop-j-preserved c = factor-more _ _ _ _ _ _ _ c.loop-j-test.true c.loop-j.invariant

pub returns : goal.returns
returns c = factor-none _ _ _ _ _ _ _ c.loop-j-test.false c.loop-j.invariant
