-- `desklink::desklink_frame_clean_unguarded` meets its contract: the answer of the call beneath, as a number. Assumes nothing.
use mathlib.Core.Path.{ap, ◌∙◌}
use Rattle.coded.proofs.Signed.{read_back_lem}
use Rattle.coded.proofs.Judged.{coded-judged}
use Rattle.coded.specs.Coded.{coded_by, flag}
use Rattle.clean_frames.specs.Calls.{frame_refusals, clean_number}
use Rattle.desklink.proofs.desklink_frame_clean_unguarded.Goals as goal

pub returns : goal.returns
unfolding clean_number
returns c =
    let a = c.args in
    read_back_lem (record { sfits = c.flag_code.type_inv }) ∙ c.flag_code.ensures ∙ ap (coded_by flag) c.frame_clean.ensures
    ∙ coded-judged flag (frame_refusals a.code a.values.now a.bits.now) _
