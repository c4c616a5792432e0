-- `slot_products::product_from` meets its contract. The invariant: the product so far, times the entries that are left, is the whole. Assumes nothing.
use Rattle.std.proofs.Common.{◌≡◌, drop}
use Rattle.softmath.specs.Single.{◌⊗◌, fold_from}
use Rattle.slots.specs.Columns.{column}
use Rattle.slot_products.proofs.product_from.Given as goal

abbrev pub invariant-loop-j : goal.invariant-loop-j
invariant-loop-j l = fold_from ◌⊗◌ l.p (drop l.j (column l.m l.d l.c l.work)) ≡ fold_from ◌⊗◌ l.start (drop l.from (column l.m l.d l.c l.work))
