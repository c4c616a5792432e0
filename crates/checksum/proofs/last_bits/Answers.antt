-- `checksum::last_bits` meets its contract. The invariant: q is the register after the turns so far.
use Rattle.std.proofs.Common.{add-one}
use Rattle.checksum.specs.Upper.{turns_up}
use Rattle.checksum.proofs.last_bits.Goals as goal

pub loop-init : goal.loop-init
unfolding turns_up
loop-init c = c.take_in-q.ensures

pub loop-preserved : goal.loop-preserved
unfolding turns_up
loop-preserved c = rw (add-one c.loop.counter) (cc)
