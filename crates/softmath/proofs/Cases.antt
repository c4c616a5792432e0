-- Document 01's worked cases of the float arithmetic: by computation. Assumes nothing.
use mathlib.Core.Path.{◌≡◌, refl}
use mathlib.Core.Bool.{false}
use mathlib.Core.List.{[], ◌∷◌}
use Prim.Native.Nat.{ℕ}
use lib.Ieee.{Float, binary32, round, add, mul, div, neg, lt, of_bits}
use Rattle.softmath.specs.Single.{zero32, one32, fold_from}
use Rattle.softmath.specs.Functions.{tanh, atanh}
use Rattle.softmath.specs.VariableNode.{decision_sum, message_total}
use Rattle.softmath.proofs.ZeroStart.{minus_zero32}

-- 16,777,216 and its next number
abbrev large32 : Float
large32 = of_bits binary32 0x4b800000

abbrev next32 : Float
next32 = of_bits binary32 0x4b800001

-- "`fast_tanh` of 1.0 is 1051/1380 rounded; of 5.0, 1.0. `fast_atanh` of 1.0 is 274/120 rounded."
abbrev rounded : ℕ → ℕ → Float
rounded num den = round binary32 false num den

pub tanh_one_case : tanh one32 ≡ rounded 1051 1380
unfolding tanh lt neg add mul div of_bits
tanh_one_case = refl

pub tanh_five_case : tanh (of_bits binary32 0x40a00000) ≡ one32
unfolding tanh lt neg of_bits
tanh_five_case = refl

pub atanh_one_case : atanh one32 ≡ rounded 274 120
unfolding atanh neg add mul div of_bits
atanh_one_case = refl

-- "with 16,777,216 and answers 1, 1, 0 the decision sum is 16,777,216, the message total 16,777,218"
pub decision_sum_case : decision_sum large32 (one32 ∷ one32 ∷ zero32 ∷ []) ≡ large32
unfolding fold_from add of_bits
decision_sum_case = refl

pub message_total_case : message_total large32 (one32 ∷ one32 ∷ zero32 ∷ []) ≡ next32
unfolding fold_from add of_bits
message_total_case = refl

-- where the totals of the two zero starts differ: the channel value and every answer are -0.0
pub total-from-zero : message_total minus_zero32 (minus_zero32 ∷ minus_zero32 ∷ []) ≡ zero32
unfolding fold_from add neg of_bits
total-from-zero = refl

pub total-from_minus_zero : add binary32 minus_zero32 (fold_from (add binary32) minus_zero32 (minus_zero32 ∷ minus_zero32 ∷ [])) ≡ minus_zero32
unfolding fold_from add neg of_bits
total-from_minus_zero = refl
