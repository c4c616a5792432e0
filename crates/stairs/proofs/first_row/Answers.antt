-- `stairs::first_row` meets its contract. The invariant: what is first among the rows that are left is first among all; the bit before is carried along.
-- Assumes nothing.
use Rattle.std.proofs.Common.{◌≡◌, ◌-◌, refl, arith}
use Rattle.tanner.proofs.Steps.{first-here, first-later, first_nowhere}
use Rattle.stairs.proofs.Rows.{row_low, row-xor, rows_more, rows_done, before_more, before-none}
use Rattle.stairs.proofs.first_row.Goals as goal

pub loop-i-init : goal.loop-i-init
loop-i-init c = let all : c.args.m - 0 ≡ c.args.m = omega arith in
    record { before = before-none c.args.k c.args.bytes.now; first = rw all refl }

pub xor_at-requires : goal.xor_at-requires
xor_at-requires c = row_low c.args.k _ c.args.width _ _ (omega (arith, c.requires.room)) c.requires.low

pub returns-then-sum-ne0 : goal.returns-then-sum-ne0
returns-then-sum-ne0 c = let s = c.args in
    first-here 1 _ _ _ _ _ _ _ (rows_more s.k s.width s.m s.taps.now c.loop-i.i c.loop-i-test.true)
    (row-xor _ _ _ _ _ _ _ c.xor_at.ensures c.loop-i.invariant.before) c.loop-i.invariant.first c.if-sum-ne0.true

pub loop-i-preserved : goal.loop-i-preserved
loop-i-preserved c = let s = c.args in
    let rows = rows_more s.k s.width s.m s.taps.now c.loop-i.i c.loop-i-test.true in
    let whole = row-xor _ _ _ _ _ _ _ c.xor_at.ensures c.loop-i.invariant.before in
    record {
      before = before_more s.k c.loop-i.i s.bytes.now;
      first = first-later 1 _ _ _ _ _ _ _ rows whole c.loop-i.invariant.first c.if-sum-ne0.false;
    }

pub returns : goal.returns
returns c = let s = c.args in
    first_nowhere 1 s.bytes.now _ _ _ (rows_done s.k s.width s.m s.taps.now c.loop-i.i c.loop-i-test.false) c.loop-i.invariant.first
