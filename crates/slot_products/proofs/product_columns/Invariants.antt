-- `slot_products::product_columns` meets its contract. The invariant: the checks so far are turned. Assumes nothing.
use Rattle.softmath.specs.Single.{product}
use Rattle.softmath.specs.CheckNode.{at_each}
use Rattle.slots.proofs.EachColumn.{DoneTo}
use Rattle.slot_products.proofs.product_columns.Given as goal

abbrev pub invariant-loop-c : goal.invariant-loop-c
invariant-loop-c l = DoneTo (at_each product) l.m l.d l.initial.work l.c l.work
