-- `stair_counts::counted` meets its contract: the count and the first row, put together; no row is counted where the count is 0. Assumes nothing.
use mathlib.Core.Path.{sym, ap₂, ◌∙◌}
use Rattle.tanner.proofs.First.{both, zero-none, masked_adds}
use Rattle.stair_counts.proofs.counted.Goals as goal

pub returns-then-count-eq0 : goal.returns-then-count-eq0
returns-then-count-eq0 c = let e = c.count-count.ensures in
    ap₂ both e (sym (zero-none _ _ (masked_adds _ _) 0 _ (sym e ∙ c.if-count-eq0.true)))

pub returns : goal.returns
returns c = ap₂ both c.count-count.ensures c.first-first.ensures
