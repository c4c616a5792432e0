-- `slot_products::product_column` meets its contract. The invariant: the entries so far are turned, and those that are left, turned with the product carried
-- along, make the whole; no other column has changed. Assumes nothing.
use Rattle.std.proofs.Common.{refl, ◌∙◌}
use Rattle.slots.proofs.EachColumn.{place_inside, apart_none, apart_more, column_is}
use Rattle.slot_products.proofs.Products.{turned_none, turned_more, turned-done}
use Rattle.slot_products.proofs.product_column.Goals as goal

pub loop-j-init : goal.loop-j-init
loop-j-init c = (apart_none _ _ _ _, turned_none _ _ _ _)

pub loop-j-preserved : goal.loop-j-preserved
loop-j-preserved c = (
  apart_more _ _ _ _ _ _ _ _ c.requires.1 refl c.loop-j.invariant.0,
  turned_more _ _ _ _ _ _ _ _ _ c.requires.1 c.loop-j-test.true refl
      (place_inside _ _ _ _ _ (c.loop-j.invariant.0.size ∙ c.requires.0) c.requires.1 c.loop-j-test.true) c.product_from.ensures c.loop-j.invariant.1,
)

pub returns : goal.returns
returns c = column_is c.loop-j.invariant.0 (turned-done _ _ _ _ _ _ _ c.loop-j-test.false c.loop-j.invariant.1)
