-- `checksum::step_two` meets its contract: what is XORed in is what two turns leave of the two top bits (`two-turns`).

use native.Mathlib.Omega.{arith}
use Rattle.checksum.proofs.Upper.{two-turns}
use Rattle.checksum.proofs.step_two.Goals as goal

pub returns : goal.returns
returns c = two-turns c.args.r (omega (arith, c.ranges.r))
