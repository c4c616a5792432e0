-- `desklink::desklink_decode_groups_unguarded` meets its contract: the call beneath, its answer told as a number. Assumes nothing.
use Rattle.coded.proofs.Signed.{read_back_lem}
use Rattle.desklink.proofs.Told.{groups_told}
use Rattle.desklink.proofs.desklink_decode_groups_unguarded.Goals as goal

pub returns : goal.returns
returns c = groups_told _ _ c.decode_groups.ensures c.status_code.ensures (read_back_lem (record { sfits = c.status_code.type_inv }))
