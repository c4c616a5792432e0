-- `desklink::desklink_ldpc_count_errors` meets its contract: the call beneath, its answer told as numbers. Assumes nothing.
use Rattle.coded.proofs.Signed.{read_back_lem}
use Rattle.desklink.proofs.Told.{count-told}
use Rattle.desklink.proofs.desklink_ldpc_count_errors.Goals as goal

pub returns : goal.returns
returns c = count-told c.ldpc_count_errors.ensures c.counting_code.ensures (read_back_lem (record { sfits = c.counting_code.type_inv }))
