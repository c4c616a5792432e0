-- `desklink::desklink_frame_reason_unguarded` meets its contract: the call beneath, its answer told as numbers. Assumes nothing.
use Rattle.coded.proofs.Signed.{read_back_lem}
use Rattle.desklink.proofs.Told.{reason_told}
use Rattle.desklink.proofs.desklink_frame_reason_unguarded.Goals as goal

pub returns : goal.returns
returns c = let found = c in
    reason_told _ found.frame_reason.ensures c.reason_code.ensures (read_back_lem (record { sfits = c.reason_code.type_inv }))
