-- `slot_others::column_of` meets its contract. The invariant: the entries so far are taken. Assumes nothing.
use Rattle.std.proofs.Common.{◌≡◌, length, take}
use Rattle.slots.specs.Columns.{column}
use Rattle.slot_others.proofs.column_of.Given as goal

abbrev pub invariant-loop-j : goal.invariant-loop-j
invariant-loop-j l = take l.j l.messages ≡ take l.j (column l.m (length l.initial.messages) l.c l.work)
