-- `desklink::desklink_values_of_bytes_unguarded` meets its contract: the answer of the call beneath, as a number. Assumes nothing.
use mathlib.Core.Path.{ap, ◌∙◌}
use Rattle.coded.proofs.Signed.{read_back_lem}
use Rattle.coded.specs.Coded.{coded_unit}
use Rattle.desklink.proofs.desklink_values_of_bytes_unguarded.Goals as goal

pub returns : goal.returns
returns c = record {
  value = read_back_lem (record { sfits = c.status_code.type_inv }) ∙ c.status_code.ensures ∙ ap coded_unit c.values_of_bytes.ensures.result_value;
  values_after = c.values_of_bytes.ensures.values_after;
}
