-- `desklink::desklink_syndrome_weight` meets its contract: the call beneath, its answer told as numbers. Assumes nothing.
use Rattle.coded.proofs.Signed.{read_back_lem}
use Rattle.desklink.proofs.Told.{count-told}
use Rattle.desklink.proofs.desklink_syndrome_weight.Goals as goal

pub returns : goal.returns
returns c = count-told c.syndrome_weight.ensures c.counting_code.ensures (read_back_lem (record { sfits = c.counting_code.type_inv }))
