-- `belief::decode` meets its contract: the decode, and then its work area cleared. Assumes nothing.
use mathlib.Core.Path.{◌∙◌}
use Rattle.belief.proofs.decode.Goals as goal

pub returns : goal.returns
returns c = record { chose = c.decode_uncleared-decoded.ensures.chose; work_after = c.clear_area.ensures ∙ c.decode_uncleared-decoded.ensures.work_unchanged }
