-- `filling::next_setting` meets its contract. The invariant: the lowest check of the rest is the lowest of all. Assumes nothing.
use Rattle.std.proofs.Common.{◌≡◌}
use Rattle.tanner.specs.Flat.{rows_from, rows_of}
use Rattle.filling.specs.Filling.{lowest}
use Rattle.filling.proofs.next_setting.Given as goal

abbrev pub invariant-loop-c : goal.invariant-loop-c
invariant-loop-c l = lowest (rows_from l.starts l.c l.flat) l.word ≡ lowest (rows_of l.starts l.flat) l.word
