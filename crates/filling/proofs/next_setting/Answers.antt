-- `filling::next_setting` meets its contract. The invariant: the lowest check of the rest is the lowest of all. Assumes nothing.
use mathlib.Core.Path.{ap}
use Prim.Native.Nat.{◌+◌}
use native.Mathlib.Omega.{arith}
use lib.ListN.{get_or}
use Rattle.tanner.specs.Flat.{Within}
use Rattle.lists.proofs.Below.{below-part}
use Rattle.filling.specs.Calls.{next_of}
use Rattle.filling.proofs.Steps.{lowest-found, lowest-more, lowest-done}
use Rattle.filling.proofs.next_setting.Goals as goal

-- the bounds of the check's positions
pub slice_bounds-next_in-start : goal.slice_bounds-next_in-start
unfolding Within
slice_bounds-next_in-start c = omega (arith, c.requires.within c.loop-c.c (omega (arith, c.loop-c-test.true)))

pub slice_bounds-next_in-end : goal.slice_bounds-next_in-end
unfolding Within
slice_bounds-next_in-end c = omega (arith, c.requires.within c.loop-c.c (omega (arith, c.loop-c-test.true)))

pub slice_bounds-next_in-count : goal.slice_bounds-next_in-count
unfolding Within
slice_bounds-next_in-count c = omega (arith, c.requires.within c.loop-c.c (omega (arith, c.loop-c-test.true)))

pub next_in-requires : goal.next_in-requires
next_in-requires c =
    let s = c.args.starts.now in
    below-part _ _ (get_or s c.loop-c.c 0) (get_or s (c.loop-c.c + 1) 0) c.requires.low

pub returns-in-Some : goal.returns-in-Some
returns-in-Some c = lowest-found _ _ _ _ c.loop-c.invariant _ _ (omega (arith, c.loop-c-test.true)) c.next_in.ensures (ap next_of c.in-Some.is)

pub loop-c-preserved : goal.loop-c-preserved
loop-c-preserved c =
    lowest-more _ _ _ _ c.loop-c.invariant (omega (arith, c.loop-c-test.true)) c.next_in.ensures (ap next_of c.in_default.is)

pub returns : goal.returns
returns c = lowest-done _ _ _ _ c.loop-c.invariant (omega (arith, c.loop-c-test.false))
