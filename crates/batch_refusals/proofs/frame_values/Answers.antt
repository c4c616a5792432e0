-- `batch_refusals::frame_values` meets its contract, code by code. Assumes nothing.
use mathlib.Core.Path.{◌∙◌}
use Rattle.batch_refusals.proofs.Sizes.{values_ft8, values_staircase}
use Rattle.batch_refusals.proofs.frame_values.Goals as goal

pub returns-then-code-gt2 : goal.returns-then-code-gt2
returns-then-code-gt2 c = values_ft8 _ c.if-code-gt2.true

pub returns : goal.returns
returns c = c.values_of.ensures ∙ values_staircase _ c.if-code-gt2.false
