-- `slot_others::min_sum_second` meets its contract: both engines answer each column alike. Assumes nothing.
use Rattle.slot_others.proofs.OneColumn.{engines_same}
use Rattle.slot_others.proofs.min_sum_second.Goals as goal

pub returns : goal.returns
returns c = engines_same _ _ _ _ _ c.min_sum_others.ensures
