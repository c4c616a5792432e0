-- `slot_others::put_column` meets its contract. The invariant: the answers so far are in their places, and no other column has changed. Assumes nothing.
use Rattle.std.proofs.Common.{◌≡◌, length, take}
use Rattle.slots.specs.Columns.{column}
use Rattle.slots.proofs.EachColumn.{ApartFrom}
use Rattle.slot_others.proofs.put_column.Given as goal

abbrev pub invariant-loop-j : goal.invariant-loop-j
invariant-loop-j l = ApartFrom l.m (length l.answers) l.c l.initial.work l.work
    × (take l.j (column l.m (length l.answers) l.c l.work) ≡ take l.j l.answers)
