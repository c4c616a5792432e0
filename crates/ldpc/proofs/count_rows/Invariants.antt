-- `ldpc::count_rows` meets its contract. The invariant: what is counted so far is the count of the rows so far. Assumes nothing.
use Rattle.std.proofs.Common.{◌≡◌}
use Rattle.tanner.specs.Masked.{count_masked}
use Rattle.ldpc.specs.Rows.{sevens}
use Rattle.ldpc.proofs.count_rows.Given as goal

abbrev pub invariant-loop-c : goal.invariant-loop-c
invariant-loop-c l = l.count ≡ count_masked l.mask (sevens l.c l.table) l.padded
