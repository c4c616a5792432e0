-- `checksum::take_in` meets its contract: a byte shifted up by 24 loses no bit in 32.

use mathlib.Core.Path.{ap}
use native.Mathlib.Nat.{mod-eq_of_lt}
use native.Mathlib.Omega.{arith}
use lib.Bits.{bit_xor}
use Rattle.checksum.specs.Upper.{taken_in}
use Rattle.checksum.proofs.take_in.Goals as goal

pub returns : goal.returns
unfolding taken_in
returns c = ap (bit_xor c.args.r) (mod-eq_of_lt (omega (arith, c.ranges.byte)))
