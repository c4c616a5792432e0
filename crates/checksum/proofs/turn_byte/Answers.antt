-- `checksum::turn_byte` meets its contract: eight turns, two at a time. Assumes nothing.

use Rattle.checksum.specs.Upper.{turns_up}
use Rattle.checksum.proofs.turn_byte.Goals as goal

pub returns : goal.returns
unfolding turns_up
returns c = cc
