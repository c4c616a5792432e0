-- The check step of every check at once, over a work area by slots: down each column the rule's answers, the pads set before.
use Rattle.std.specs.Prelude.{true, false, Float}
use Rattle.std.specs.Float.{inf}
use Rattle.softmath.specs.declared.DecodeRule.{DecodeRule}
use Rattle.softmath.specs.declared.DecodeRule.TheVariants.{SumProduct, MinSum, ScaledMinSum, Ft8}
pub use Rattle.slots.specs.Columns.{AtColumns}

-- the message in the place of a last entry that a check lacks: +infinity, or -infinity where the rule takes minus the message
unfoldable pub pad_of : DecodeRule → Float
pad_of SumProduct = inf false
pad_of MinSum = inf false
pad_of (ScaledMinSum scale) = inf false
pad_of Ft8 = inf true
