-- `desklink::desklink_ft8_extract_crc` meets its contract: the answer of the call beneath, as a number. Assumes nothing.
use mathlib.Core.Path.{ap, ◌∙◌}
use Rattle.coded.proofs.Signed.{read_back_lem}
use Rattle.coded.specs.Coded.{coded}
use Rattle.desklink.proofs.desklink_ft8_extract_crc.Goals as goal

pub returns : goal.returns
returns c = read_back_lem (record { sfits = c.answer_code.type_inv }) ∙ c.answer_code.ensures ∙ ap coded c.ft8_extract_crc.ensures
