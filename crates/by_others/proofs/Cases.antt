-- Document 01's case of min-sum, from each entry's others: by computation. Assumes nothing.
use mathlib.Core.Path.{◌≡◌, refl}
use mathlib.Core.List.{[], ◌∷◌}
use lib.Ieee.{Float, nan, binary32, mul, neg, lt, of_bits}
use Rattle.softmath.specs.Single.{one32, two32, fold_from}
use Rattle.softmath.specs.Functions.{magnitude_of}
use Rattle.softmath.specs.CheckNode.{over_others}
use Rattle.by_others.specs.Others.{others_sum}

abbrev three32 : Float
three32 = of_bits binary32 0x40400000

-- "(P) Min-sum on 2.0, -3.0, 2.0, NaN gives -2.0, 2.0, -2.0, -2.0."
pub others_case : others_sum one32 (two32 ∷ neg three32 ∷ two32 ∷ nan ∷ []) ≡ neg two32 ∷ two32 ∷ neg two32 ∷ neg two32 ∷ []
unfolding others_sum over_others fold_from magnitude_of of_bits neg lt mul
others_case = refl
