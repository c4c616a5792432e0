-- `slot_minima::answer_column` meets its contract. The invariant: the entries so far are answered, and those that are left, answered, make the whole; no
-- other column has changed. Assumes nothing.
use Rattle.std.proofs.Common.{refl, ◌∙◌}
use Rattle.slots.proofs.EachColumn.{place_inside, apart_none, apart_more, column_is}
use Rattle.slot_minima.proofs.Seeing.{answered-more, answered-done}
use Rattle.slot_minima.proofs.answer_column.Goals as goal

pub loop-j-init : goal.loop-j-init
loop-j-init c = (apart_none _ _ _ _, refl)

pub loop-j-preserved : goal.loop-j-preserved
loop-j-preserved c = (
  apart_more _ _ _ _ _ _ _ _ c.requires.1 refl c.loop-j.invariant.0,
  answered-more _ _ _ _ _ _ _ _ _ _ c.requires.1 c.loop-j-test.true refl
      (place_inside _ _ _ _ _ (c.loop-j.invariant.0.size ∙ c.requires.0) c.requires.1 c.loop-j-test.true) c.answer.ensures c.loop-j.invariant.1,
)

pub returns : goal.returns
returns c = column_is c.loop-j.invariant.0 (answered-done _ _ _ _ _ _ _ _ c.loop-j-test.false c.loop-j.invariant.1)
