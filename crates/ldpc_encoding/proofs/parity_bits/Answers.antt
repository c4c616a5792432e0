-- `ldpc_encoding::parity_bits` meets its contract. The invariant: the byte holds the parity bits gathered so far.
use Rattle.std.proofs.Common.{refl}
use Rattle.ldpc_encoding.specs.Bytes.{gathered}
use Rattle.ldpc_encoding.proofs.Gather.{gathered_more}
use Rattle.ldpc_encoding.proofs.parity_bits.Goals as goal

pub loop-i-init : goal.loop-i-init
unfolding gathered
loop-i-init c = refl

pub loop-i-preserved : goal.loop-i-preserved
loop-i-preserved c = gathered_more _ _ _ _ _ _ _ c.loop-i.invariant c.mix.ensures c.parity8.ensures
