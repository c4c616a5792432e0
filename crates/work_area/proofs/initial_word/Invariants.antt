-- `work_area::initial_word` meets its contract. The invariant: what is written so far is the front of the word. Assumes nothing.
use Rattle.std.proofs.Common.{◌≡◌, map, take}
use Rattle.softmath.specs.Functions.{decide}
use Rattle.work_area.proofs.initial_word.Given as goal

abbrev pub invariant-loop-i : goal.invariant-loop-i
invariant-loop-i l = take l.i l.hard ≡ take l.i (map decide l.llr)
