-- `stair_parity::fill_rows` meets its contract. The invariant: filling in the rows that are left gives the whole; the bit before is carried along. Assumes
-- nothing.
use Rattle.std.proofs.Common.{◌+◌, ◌<◌, length, arith}
use Rattle.stairs.proofs.Rows.{row_low}
use Rattle.stair_parity.proofs.Filling.{before-set, fill_more, fill_done}
use Rattle.stair_parity.proofs.fill_rows.Goals as goal

pub xor_at-requires : goal.xor_at-requires
xor_at-requires c = row_low c.args.k _ c.args.width _ _ (omega (arith, c.requires.room)) c.requires.low

pub loop-i-preserved : goal.loop-i-preserved
loop-i-preserved c = let s = c.args in
    let inside : s.k + c.loop-i.i < length c.loop-i.codeword = omega (arith, c.requires.room) in
    record {
      before = before-set s.k c.loop-i.i _ c.loop-i.codeword inside;
      filled = fill_more s.k c.args.width s.taps.now c.loop-i.codeword c.loop-i.i _ c.loop-i.before c.xor_at.ensures c.loop-i.invariant.before
          c.requires.low inside (s.first + s.n) _ c.loop-i-test.true c.loop-i.invariant.filled;
    }

pub returns : goal.returns
returns c = let s = c.args in
    fill_done s.k c.args.width (s.first + s.n) s.taps.now c.loop-i.i _ _ c.loop-i-test.false c.loop-i.invariant.filled
