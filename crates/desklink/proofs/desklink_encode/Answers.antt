-- `desklink::desklink_encode` meets its contract: the call beneath, its answer told as a number. Assumes nothing.
use mathlib.Core.Path.{ap, ◌∙◌}
use Rattle.coded.specs.Coded.{coded_unit}
use Rattle.coded.proofs.Signed.{read_back_lem}
use Rattle.desklink.proofs.desklink_encode.Goals as goal

pub returns : goal.returns
returns c = let done = c.encode.ensures in
    record {
      value = read_back_lem (record { sfits = c.status_code.type_inv }) ∙ c.status_code.ensures ∙ ap coded_unit done.result_value;
      codeword_after = done.codeword_after;
    }
