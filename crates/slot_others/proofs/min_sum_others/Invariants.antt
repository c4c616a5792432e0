-- `slot_others::min_sum_others` meets its contract. The invariant: the checks so far are answered. Assumes nothing.
use Rattle.by_others.specs.Others.{others_sum}
use Rattle.softmath.specs.CheckNode.{factor_of}
use Rattle.slots.proofs.EachColumn.{DoneTo}
use Rattle.slot_others.proofs.min_sum_others.Given as goal

abbrev pub invariant-loop-c : goal.invariant-loop-c
invariant-loop-c l = DoneTo (others_sum (factor_of l.rule)) l.m l.d l.initial.work l.c l.work
