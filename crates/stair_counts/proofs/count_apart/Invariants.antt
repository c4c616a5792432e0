-- `stair_counts::count_apart` meets its contract. The invariant: what is found so far, with what the rows that are left hold, is the whole; the difference in
-- the bit before is carried along. Assumes nothing.
use Rattle.std.proofs.Common.{◌≡◌, ◌+◌, ◌-◌, ◌≤◌}
use Rattle.std.specs.Int.Bits.{bit_xor}
use Rattle.stairs.specs.Stairs.{bit_before}
use Rattle.stair_counts.specs.Apart.{rows_apart}
use Rattle.stair_counts.proofs.count_apart.Given as goal

abbrev pub invariant-loop-i : goal.invariant-loop-i
invariant-loop-i l = record {
  few : l.found ≤ l.i;
  before : l.before ≡ bit_xor (bit_before l.k l.i l.word) (bit_before l.k l.i l.hard);
  whole : l.found + rows_apart l.k l.i (l.m - l.i) l.word l.hard ≡ rows_apart l.k 0 l.m l.word l.hard;
}
