-- `softmath::fast_atanh` meets its contract: its operations are those of the definition, in the same order.
-- Assumes nothing.
use mathlib.Core.Path.{refl}
use lib.Ieee.{neg}
use Rattle.softmath.specs.Functions.{atanh}
use Rattle.softmath.proofs.fast_atanh.Goals as goal

pub returns : goal.returns
unfolding atanh neg
returns c = refl
