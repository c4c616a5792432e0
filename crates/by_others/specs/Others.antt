-- Min-sum from each entry's other entries (change request N9): their least magnitude and their sign, gone through in row order.
use Rattle.std.specs.Prelude.{false, cond, List, Float}
use Rattle.std.specs.Float.{inf}
use Rattle.std.specs.Float.Ieee.{lt}
use Rattle.softmath.specs.Single.{◌⊗◌, one32, fold_from}
use Rattle.softmath.specs.Functions.{magnitude_of}
use Rattle.softmath.specs.CheckNode.{at_each, turned}

-- the least so far, and v's magnitude where that is below it; NaN is below nothing
abbrev pub lesser_of : Float → Float → Float
lesser_of least v = cond (lt (magnitude_of v) least) (magnitude_of v) least

-- the sign so far, turned where v is negative
abbrev pub turned_by : Float → Float → Float
turned_by sign v = turned v sign

-- the least magnitude, from +infinity
abbrev pub least_of : List Float → Float
least_of vs = fold_from lesser_of (inf false) vs

-- the sign of the product, from 1.0
abbrev pub sign_of : List Float → Float
sign_of vs = fold_from turned_by one32 vs

-- "(scale times sign) times magnitude", from the other entries alone
abbrev pub others_answer : Float → List Float → Float
others_answer scale others = (scale ⊗ sign_of others) ⊗ least_of others

-- at each entry the answer from its others
unfoldable pub others_sum : Float → List Float → List Float
others_sum scale vs = at_each (others_answer scale) vs
