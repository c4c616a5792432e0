-- `slot_minima::min_sum_columns` meets its contract. The invariant: the checks so far are answered. Assumes nothing.
use Rattle.softmath.specs.CheckNode.{min_sum, factor_of}
use Rattle.slots.proofs.EachColumn.{DoneTo}
use Rattle.slot_minima.proofs.min_sum_columns.Given as goal

abbrev pub invariant-loop-c : goal.invariant-loop-c
invariant-loop-c l = DoneTo (min_sum (factor_of l.rule)) l.m l.d l.initial.work l.c l.work
