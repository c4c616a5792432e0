-- `batch_refusals::message_bits` meets its contract, code by code. Assumes nothing.
use mathlib.Core.Path.{◌∙◌}
use Rattle.batch_refusals.proofs.Sizes.{bits_ft8, bits-staircase}
use Rattle.batch_refusals.proofs.message_bits.Goals as goal

pub returns-then-code-gt2 : goal.returns-then-code-gt2
returns-then-code-gt2 c = bits_ft8 _ c.if-code-gt2.true

pub returns : goal.returns
returns c = c.bits_of.ensures ∙ bits-staircase _ c.if-code-gt2.false
