-- `batch_input::read_header` meets its contract: each number from its place. Assumes nothing.
use mathlib.Core.Path.{refl, ap, ◌∙◌}
use Rattle.batch_input.specs.Input.{float_of}
use Rattle.batch_input.proofs.read_header.Goals as goal

pub returns : goal.returns
returns c = record { code = refl; rule = refl; limit = c.u16_at-limit.ensures; scale = c.float_of-scale.ensures ∙ ap float_of c.u32_at.ensures }
