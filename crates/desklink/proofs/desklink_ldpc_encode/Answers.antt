-- `desklink::desklink_ldpc_encode` meets its contract: the answer of the call beneath, as a number. Assumes nothing.
use mathlib.Core.Path.{ap, ◌∙◌}
use Rattle.coded.proofs.Signed.{read_back_lem}
use Rattle.coded.specs.Coded.{coded_unit}
use Rattle.desklink.proofs.desklink_ldpc_encode.Goals as goal

pub returns : goal.returns
returns c = record {
  value = read_back_lem (record { sfits = c.status_code.type_inv }) ∙ c.status_code.ensures ∙ ap coded_unit c.ldpc_encode.ensures.result_value;
  codeword_after = c.ldpc_encode.ensures.codeword_after;
}
