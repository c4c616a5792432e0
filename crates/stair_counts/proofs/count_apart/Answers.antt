-- `stair_counts::count_apart` meets its contract. The invariant: what is found so far, with what the rows that are left hold, is the whole; the difference in
-- the bit before is carried along. Assumes nothing.
use Rattle.std.proofs.Common.{◌≡◌, ◌-◌, arith}
use Rattle.stair_counts.proofs.Recount.{apart_of, apart_bit, none_before, own_before, apart_more, apart_none}
use Rattle.stair_counts.proofs.count_apart.Goals as goal

pub loop-i-init : goal.loop-i-init
loop-i-init c = let a = c.args in
    let all : a.m - 0 ≡ a.m = omega arith in
    record { few = omega arith; before = none_before a.k a.word.now a.hard.now; whole = rw all (omega arith) }

pub loop-i-preserved : goal.loop-i-preserved
loop-i-preserved c = let a = c.args in
    let i = c.loop-i.i in
    let row = apart_of a.k i a.word.now a.hard.now _ c.loop-i.invariant.before in
    record {
      few = omega (arith, row, apart_bit a.k i a.word.now a.hard.now);
      before = own_before a.k i a.word.now a.hard.now;
      whole = omega (arith, row, apart_more a.k i a.m a.word.now a.hard.now c.loop-i-test.true, c.loop-i.invariant.whole);
    }

pub returns : goal.returns
returns c = omega (arith, apart_none c.args.k c.loop-i.i c.args.m c.args.word.now c.args.hard.now c.loop-i-test.false, c.loop-i.invariant.whole)
