-- `one_round::counted` meets its contract: the count, and the first check that it includes. Assumes nothing.
use mathlib.Core.Path.{ap₂}
use Rattle.tanner.proofs.First.{both}
use Rattle.one_round.proofs.counted.Goals as goal

pub returns : goal.returns
returns c = ap₂ both c.count-count.ensures c.first_counted-first.ensures
