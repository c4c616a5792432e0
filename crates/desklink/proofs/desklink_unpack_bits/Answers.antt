-- `desklink::desklink_unpack_bits` meets its contract: the answer of the call beneath, as a number. Assumes nothing.
use mathlib.Core.Path.{ap, ◌∙◌}
use Rattle.coded.proofs.Signed.{read_back_lem}
use Rattle.coded.specs.Coded.{coded_unit}
use Rattle.desklink.proofs.desklink_unpack_bits.Goals as goal

pub returns : goal.returns
returns c = record {
  value = read_back_lem (record { sfits = c.status_code.type_inv }) ∙ c.status_code.ensures ∙ ap coded_unit c.unpack_bits.ensures.result_value;
  word_after = c.unpack_bits.ensures.word_after;
}
