-- `slot_others::put_column` meets its contract. The invariant: the answers so far are in their places, and no other column has changed. Assumes nothing.
use Rattle.std.proofs.Common.{refl, ◌∙◌}
use Rattle.slots.proofs.EachColumn.{place_inside, apart_none, apart_more, column_is}
use Rattle.slot_others.proofs.OneColumn.{put-more, put-done}
use Rattle.slot_others.proofs.put_column.Goals as goal

pub loop-j-init : goal.loop-j-init
loop-j-init c = (apart_none _ _ _ _, refl)

pub loop-j-preserved : goal.loop-j-preserved
loop-j-preserved c = (
  apart_more _ _ _ _ _ _ _ _ c.requires.1 refl c.loop-j.invariant.0,
  put-more _ _ _ _ c.requires.1 _ c.loop-j-test.true
      (place_inside _ _ _ _ _ (c.loop-j.invariant.0.size ∙ c.requires.0) c.requires.1 c.loop-j-test.true) c.loop-j.invariant.1,
)

pub returns : goal.returns
returns c = column_is c.loop-j.invariant.0 (put-done _ _ _ _ c.requires.1 _ c.loop-j-test.false c.loop-j.invariant.1)
