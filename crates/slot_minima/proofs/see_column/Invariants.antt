-- `slot_minima::see_column` meets its contract. The invariant: the messages so far are seen. Assumes nothing.
use Rattle.slot_minima.proofs.Seeing.{SeenTo}
use Rattle.slot_minima.proofs.see_column.Given as goal

abbrev pub invariant-loop-j : goal.invariant-loop-j
invariant-loop-j l = SeenTo l.m l.d l.c l.work l.j l.kept
