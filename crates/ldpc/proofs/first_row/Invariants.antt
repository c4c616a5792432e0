-- `ldpc::first_row` meets its contract. The invariant: what is first among the rows that are left is first among all. Assumes nothing.
use Rattle.std.proofs.Common.{◌≡◌, ◌-◌, ◌*◌, drop}
use Rattle.tanner.specs.Checks.{first_by}
use Rattle.tanner.specs.Masked.{measured, first_masked}
use Rattle.ldpc.specs.Rows.{sevens}
use Rattle.ldpc.proofs.first_row.Given as goal

abbrev pub invariant-loop-c : goal.invariant-loop-c
invariant-loop-c l =
    first_by (measured l.mask l.padded) l.c (sevens (83 - l.c) (drop (l.c * 7) l.table)) ≡ first_masked l.mask (sevens 83 l.table) l.padded
