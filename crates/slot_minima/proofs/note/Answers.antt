-- `slot_minima::note` meets its contract: each part is what the definition keeps. Assumes nothing.
use Rattle.slot_minima.specs.Minima.{noted}
use Rattle.slot_minima.proofs.note.Goals as goal

pub returns : goal.returns
unfolding noted
returns c = cc
