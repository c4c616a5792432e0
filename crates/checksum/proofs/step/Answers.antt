-- `checksum::step` meets its contract: its line is the turn's definition, and the product is 0 or the polynomial.

use mathlib.Core.Path.{refl}
use Rattle.checksum.specs.Register.{turn}
use Rattle.checksum.proofs.step.Goals as goal

pub returns : goal.returns
unfolding turn
returns c = refl
