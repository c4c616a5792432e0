-- `slot_minima::min_sum_column` meets its contract: the messages seen, and then answered. Assumes nothing.
use Rattle.slot_minima.proofs.Seeing.{seen_and_answered}
use Rattle.slot_minima.proofs.min_sum_column.Goals as goal

pub returns : goal.returns
returns c = seen_and_answered _ _ _ _ _ _ _ _ c.factor_of-scale.ensures c.see_column-kept.ensures.value c.see_column-kept.ensures.fit
    c.answer_column.ensures
