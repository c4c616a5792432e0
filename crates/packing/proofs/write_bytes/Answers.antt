-- `packing::write_bytes` meets its contract. The invariant: what is written so far is the bytes so far.
use Rattle.std.proofs.Common.{refl, arith}
use Rattle.packing.specs.Packing.{bytes_from}
use Rattle.packing.proofs.Lists.{pack_more, pack_done}
use Rattle.packing.proofs.write_bytes.Goals as goal

pub loop-i-init : goal.loop-i-init
unfolding bytes_from
loop-i-init c = refl

pub loop-i-preserved : goal.loop-i-preserved
loop-i-preserved c = pack_more c.args.word.now c.loop-i.bytes c.loop-i.i _ (omega arith) c.byte_at.ensures c.loop-i.invariant

pub returns : goal.returns
returns c = pack_done c.args.word.now c.loop-i.bytes c.loop-i.i (omega arith) (omega arith) (omega arith) c.loop-i.invariant
