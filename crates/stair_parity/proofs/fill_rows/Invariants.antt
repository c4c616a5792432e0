-- `stair_parity::fill_rows` meets its contract. The invariant: filling in the rows that are left gives the whole; the bit before is carried along. Assumes
-- nothing.
use Rattle.std.proofs.Common.{◌≡◌, ◌+◌, ◌-◌}
use Rattle.staircase.specs.Shape.{stair_rows}
use Rattle.stairs.specs.Stairs.{bit_before}
use Rattle.stair_parity.specs.Filling.{filled}
use Rattle.stair_parity.proofs.fill_rows.Given as goal

abbrev pub invariant-loop-i : goal.invariant-loop-i
invariant-loop-i l = record {
  before : l.before ≡ bit_before l.k l.i l.codeword;
  filled : filled (stair_rows l.k l.width l.taps l.i (l.first + l.n - l.i)) (l.k + l.i) l.codeword
      ≡ filled (stair_rows l.k l.width l.taps l.first l.n) (l.k + l.first) l.initial.codeword;
}
