-- `first_reason::first_nan` meets its contract. The invariant: the first NaN of the values that are left is the answer. Assumes nothing.
use Rattle.std.proofs.Common.{sym, ◌∙◌}
use Rattle.first_reason.proofs.Steps.{nan-here, nan-later, nan_nowhere}
use Rattle.first_reason.proofs.first_nan.Goals as goal

pub returns-then-is_nan : goal.returns-then-is_nan
returns-then-is_nan c = nan-here _ _ c.loop-i-test.true (sym c.is_nan.ensures.value ∙ c.if-is_nan.true) ∙ c.loop-i.invariant

pub loop-i-preserved : goal.loop-i-preserved
loop-i-preserved c = sym (nan-later _ _ c.loop-i-test.true (sym c.is_nan.ensures.value ∙ c.if-is_nan.false)) ∙ c.loop-i.invariant

pub returns : goal.returns
returns c = nan_nowhere _ _ c.loop-i-test.false c.loop-i.auto.i-end ∙ c.loop-i.invariant
