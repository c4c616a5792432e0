-- `stairs::first_row` meets its contract. The invariant: what is first among the rows that are left is first among all; the bit before is carried along.
-- Assumes nothing.
use Rattle.std.proofs.Common.{◌≡◌, ◌-◌}
use Rattle.tanner.specs.Checks.{first_by}
use Rattle.tanner.specs.Masked.{measured, first_masked}
use Rattle.staircase.specs.Shape.{stair_rows, stairs}
use Rattle.stairs.specs.Stairs.{bit_before}
use Rattle.stairs.proofs.first_row.Given as goal

abbrev pub invariant-loop-i : goal.invariant-loop-i
invariant-loop-i l = record {
  before : l.last ≡ bit_before l.k l.i l.bytes;
  first : first_by (measured 1 l.bytes) l.i (stair_rows l.k l.width l.taps l.i (l.m - l.i)) ≡ first_masked 1 (stairs l.k l.width l.m l.taps) l.bytes;
}
