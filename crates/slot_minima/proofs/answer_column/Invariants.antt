-- `slot_minima::answer_column` meets its contract. The invariant: the entries so far are answered, and those that are left, answered, make the whole; no
-- other column has changed. Assumes nothing.
use Rattle.std.proofs.Common.{◌≡◌, ◌++◌, map, take, drop}
use Rattle.slots.specs.Columns.{column}
use Rattle.slots.proofs.EachColumn.{ApartFrom}
use Rattle.slot_minima.specs.Minima.{answer_to}
use Rattle.slot_minima.proofs.answer_column.Given as goal

abbrev pub invariant-loop-j : goal.invariant-loop-j
invariant-loop-j l = ApartFrom l.m l.d l.c l.initial.work l.work
    × (take l.j (column l.m l.d l.c l.work) ++ map (answer_to l.scale l.kept) (drop l.j (column l.m l.d l.c l.work))
    ≡ map (answer_to l.scale l.kept) (column l.m l.d l.c l.initial.work))
