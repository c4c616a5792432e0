-- `packing::write_bits` meets its contract. The invariant: what is written so far is the bits so far.
use Rattle.std.proofs.Common.{arith}
use Rattle.bits.specs.Bits.{bits}
use Rattle.bits.proofs.Digits.{bits-length}
use Rattle.lists.proofs.Loops.{fill_more}
use Rattle.packing.proofs.write_bits.Goals as goal

pub loop-i-preserved : goal.loop-i-preserved
loop-i-preserved c =
    let long = bits-length c.args.bytes.now in
    fill_more (bits c.args.bytes.now) 0 c.loop-i.word c.loop-i.i _ (omega arith) (omega arith) c.bit_in.ensures c.loop-i.invariant
