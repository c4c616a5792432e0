-- `desklink::desklink_decode_soft_with_unguarded` meets its contract: the call beneath, its answer told as numbers. Assumes nothing.
use Rattle.coded.proofs.Signed.{read_back_lem}
use Rattle.desklink.proofs.Told.{decode_told}
use Rattle.desklink.proofs.desklink_decode_soft_with_unguarded.Goals as goal

pub returns : goal.returns
returns c = decode_told _ c.decode_soft_with.ensures c.decoding_code.ensures (read_back_lem (record { sfits = c.decoding_code.type_inv }))
