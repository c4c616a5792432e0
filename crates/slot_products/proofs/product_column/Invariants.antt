-- `slot_products::product_column` meets its contract. The invariant: the entries so far are turned, and those that are left, turned with the product carried
-- along, make the whole; no other column has changed. Assumes nothing.
use Rattle.std.proofs.Common.{◌≡◌, ◌++◌, take, drop}
use Rattle.softmath.specs.Single.{◌⊗◌, product}
use Rattle.softmath.specs.CheckNode.{at_each}
use Rattle.softmath.proofs.LeaveOneOut.{carried_from}
use Rattle.slots.specs.Columns.{column}
use Rattle.slots.proofs.EachColumn.{ApartFrom}
use Rattle.slot_products.proofs.product_column.Given as goal

abbrev pub invariant-loop-j : goal.invariant-loop-j
invariant-loop-j l = ApartFrom l.m l.d l.c l.initial.work l.work
    × (take l.j (column l.m l.d l.c l.work) ++ carried_from ◌⊗◌ l.carried (drop l.j (column l.m l.d l.c l.work))
    ≡ at_each product (column l.m l.d l.c l.initial.work))
