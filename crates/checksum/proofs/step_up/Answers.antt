-- `checksum::step_up` meets its contract: its line is the turn's definition, and the product is 0 or the polynomial.

use mathlib.Core.Path.{refl}
use Rattle.checksum.specs.Upper.{turn_up}
use Rattle.checksum.proofs.step_up.Goals as goal

pub returns : goal.returns
unfolding turn_up
returns c = refl
