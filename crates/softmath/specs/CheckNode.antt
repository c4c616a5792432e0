-- The check step: from the messages of one check, in row order, the answer to each of its positions.
use Rattle.std.specs.Prelude.{ℕ, suc, false, cond, List, [], ◌∷◌, ◌++◌, map, eqb, Float}
use Rattle.std.specs.Float.{inf}
use Rattle.std.specs.Float.Ieee.{neg, lt}
use Rattle.softmath.specs.Single.{◌⊗◌, ◌⊘◌, zero32, one32, two32, product}
use Rattle.softmath.specs.Functions.{tanh, atanh, clamp_unit, magnitude_of}
use Rattle.softmath.specs.declared.DecodeRule.{DecodeRule}
use Rattle.softmath.specs.declared.DecodeRule.TheVariants.{SumProduct, MinSum, ScaledMinSum, Ft8}

-- ---- leave one out

-- at each entry after `passed`, f of the other entries, in row order
unfoldable pub over_others : (List Float → Float) → List Float → List Float → List Float
over_others f passed [] = []
over_others f passed (x ∷ xs) = f (passed ++ xs) ∷ over_others f (passed ++ (x ∷ [])) xs

-- at each entry f of the other entries, in row order
abbrev pub at_each : (List Float → Float) → List Float → List Float
at_each f xs = over_others f [] xs

-- ---- min-sum, "as in the file": the two least magnitudes, where the least is first met, and the sign of the product

pub record Minima : Type 0 where
  pub least : Float
  pub second : Float
  pub place : ℕ
  pub sign : Float

-- nothing seen yet
abbrev pub none_seen : Minima
none_seen = record { least = inf false; second = inf false; place = 0; sign = one32 }

-- the two least magnitudes after one more, a, at place i; NaN is below nothing, and an equal one is no new least
abbrev pub lower : Float → ℕ → Minima → Minima
lower a i m =
    cond (lt a m.least) (record { least = a; second = m.least; place = i; sign = m.sign })
    (cond (lt a m.second) (record { least = m.least; second = a; place = m.place; sign = m.sign }) m)

-- the sign with v's: turned where v is negative, which NaN and -0.0 are not
abbrev pub turned : Float → Float → Float
turned v s = cond (lt v zero32) (neg s) s

-- one message more, v at place i
unfoldable pub seen : Minima → ℕ → Float → Minima
seen m i v = lower (magnitude_of v) i (record { least = m.least; second = m.second; place = m.place; sign = turned v m.sign })

-- the messages from place i on
unfoldable pub minima_from : Minima → ℕ → List Float → Minima
minima_from m i [] = m
minima_from m i (v ∷ vs) = minima_from (seen m i v) (suc i) vs

unfoldable pub minima_of : List Float → Minima
minima_of vs = minima_from none_seen 0 vs

-- "the answer is (scale times sign) times magnitude": the others' sign, and the least magnitude or at its own place the second
unfoldable pub min_answer : Float → Minima → ℕ → Float → Float
min_answer scale m i v = (scale ⊗ turned v m.sign) ⊗ cond (eqb i m.place) m.second m.least

-- the answers from place i on
unfoldable pub min_answers : Float → Minima → ℕ → List Float → List Float
min_answers scale m i [] = []
min_answers scale m i (v ∷ vs) = min_answer scale m i v ∷ min_answers scale m (suc i) vs

unfoldable pub min_sum : Float → List Float → List Float
min_sum scale vs = min_answers scale (minima_of vs) 0 vs

-- ---- the step

-- the tanh of message/2.0, and of minus the message over 2.0
abbrev pub half_tanh : Float → Float
half_tanh m = tanh (m ⊘ two32)

abbrev pub negated_half_tanh : Float → Float
negated_half_tanh m = tanh (neg m ⊘ two32)

-- 2.0 times the atanh of the clamped product, and -2.0 times that of the product as it is
abbrev pub clamped_answer : Float → Float
clamped_answer p = two32 ⊗ atanh (clamp_unit p)

abbrev pub negated_answer : Float → Float
negated_answer p = neg two32 ⊗ atanh p

-- "products from 1.0 of the other `fast_tanh` of message/2.0 in row order, clamped to -1.0 to 1.0 (NaN remains), then 2.0 times `fast_atanh`"
abbrev pub sum_product_answer : List Float → Float
sum_product_answer ms = clamped_answer (product (map half_tanh ms))

-- "multiply from 1.0, in `NM` order, the `fast_tanh` of minus the other messages over 2.0; the answer is -2.0 times `fast_atanh` of that product, unclamped"
abbrev pub ft8_answer : List Float → Float
ft8_answer ms = negated_answer (product (map negated_half_tanh ms))

-- the answers of one check to its messages, by the decode rule
unfoldable pub check_step : DecodeRule → List Float → List Float
check_step SumProduct ms = at_each sum_product_answer ms
check_step MinSum ms = min_sum one32 ms
check_step (ScaledMinSum scale) ms = min_sum scale ms
check_step Ft8 ms = at_each ft8_answer ms

-- what a min-sum rule multiplies its answers by; the rules that multiply have no use for it
unfoldable pub factor_of : DecodeRule → Float
factor_of SumProduct = one32
factor_of MinSum = one32
factor_of (ScaledMinSum scale) = scale
factor_of Ft8 = one32

-- ---- the same in three parts: each message by itself, the messages of a check together, each answer by itself

unfoldable pub before : DecodeRule → Float → Float
before SumProduct m = half_tanh m
before MinSum m = m
before (ScaledMinSum scale) m = m
before Ft8 m = negated_half_tanh m

unfoldable pub middle : DecodeRule → List Float → List Float
middle SumProduct ts = at_each product ts
middle MinSum ts = min_sum one32 ts
middle (ScaledMinSum scale) ts = min_sum scale ts
middle Ft8 ts = at_each product ts

unfoldable pub after : DecodeRule → Float → Float
after SumProduct p = clamped_answer p
after MinSum p = p
after (ScaledMinSum scale) p = p
after Ft8 p = negated_answer p
