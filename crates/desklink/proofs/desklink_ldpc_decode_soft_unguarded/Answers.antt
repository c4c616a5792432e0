-- `desklink::desklink_ldpc_decode_soft_unguarded` meets its contract: the call beneath, its answer told as numbers. Assumes nothing.
use Rattle.coded.proofs.Signed.{read_back_lem}
use Rattle.desklink.proofs.Told.{decode_told}
use Rattle.desklink.proofs.desklink_ldpc_decode_soft_unguarded.Goals as goal

pub returns : goal.returns
returns c = decode_told _ c.ldpc_decode_soft.ensures c.decoding_code.ensures (read_back_lem (record { sfits = c.decoding_code.type_inv }))
