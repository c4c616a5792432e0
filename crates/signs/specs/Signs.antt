-- The sign of a check's answer (change request N3): the product of the other positions' `tanh`s is negative where an odd number of their messages is, and
-- so is the answer of rule 4; what (174,91)'s own check step, rule 0, makes of it.
use Rattle.std.specs.Prelude.{◌≤◌, ◌≡◌, Bool, true, false, not, List, [], ◌∷◌, map, length, Float}
use Rattle.std.specs.Float.{binary32}
use Rattle.std.specs.Float.Ieee.{of_bits, unlike, neg, lt, eq, is_nan}
use Rattle.softmath.specs.Single.{zero32, product}
use Rattle.softmath.specs.CheckNode.{half_tanh, negated_half_tanh, sum_product_answer, ft8_answer}
use Rattle.code174.specs.Tables.{num_rows}
use Rattle.code174.specs.Agreement.{times}

-- ---- how many messages are negative

-- an odd number of the entries has the property
unfoldable pub oddly : (Float → Bool) → List Float → Bool
oddly has [] = false
oddly has (m ∷ ms) = unlike (has m) (oddly has ms)

-- as the decoder compares: neither -0.0 nor NaN is negative
abbrev pub negative : Float → Bool
negative x = lt x zero32

-- an odd number of the messages is negative
abbrev pub odd_negatives : List Float → Bool
odd_negatives ms = oddly negative ms

-- an odd number of messages
abbrev pub odd_length : List Float → Bool
odd_length ms = oddly (λ m. true) ms

-- no message is NaN
pub data NoneNan : List Float → Type 0 where
  empty : NoneNan []
  more : {m : Float} {ms : List Float} → is_nan m ≡ false → NoneNan ms → NoneNan (m ∷ ms)

-- neither a NaN nor a zero of either sign
pub record Nonzero (x : Float) : Type 0 where
  pub number : is_nan x ≡ false
  pub nonzero : eq x zero32 ≡ false

-- ---- rule 4: the product of the `tanh`s of the messages' halves

abbrev pub product_of : List Float → Float
product_of ms = product (map half_tanh ms)

-- of the messages of a check's other positions, none of which is NaN
pub record ProductSign (ms : List Float) : Type 0 where
  -- "where no other message is NaN and the product is not zero, that product is negative exactly if an odd number of the other messages is"
  pub worded : length ms ≤ 25 → eq (product_of ms) zero32 ≡ false → negative (product_of ms) ≡ odd_negatives ms
  -- with any number of others, where the product is no NaN either: of very many, an infinity times a zero may be (`counterexample`)
  pub sign : Nonzero (product_of ms) → negative (product_of ms) ≡ odd_negatives ms
  pub number : length ms ≤ 25 → is_nan (product_of ms) ≡ false
  -- and so the check's answer
  pub answer : Nonzero (product_of ms) → negative (sum_product_answer ms) ≡ odd_negatives ms

-- ---- rule 0 of (174,91), which "negates before and after"

abbrev pub negated_product_of : List Float → Float
negated_product_of ms = product (map negated_half_tanh ms)

-- 1.0625: the pole of the `atanh`, past which its sign turns, lies at 1.1035
abbrev pub near_pole : Float
near_pole = of_bits binary32 0x3f880000

-- from -1.0625 to 1.0625
pub record BelowPole (x : Float) : Type 0 where
  pub from : lt x (neg near_pole) ≡ false
  pub to : lt near_pole x ≡ false

pub record NegatedSign (ms : List Float) : Type 0 where
  -- the product's sign is turned once for each message
  pub sign : Nonzero (negated_product_of ms) → negative (negated_product_of ms) ≡ unlike (odd_negatives ms) (odd_length ms)
  pub number : length ms ≤ 25 → is_nan (negated_product_of ms) ≡ false
  -- up to six factors stay below the pole
  pub low : length ms ≤ 6 → BelowPole (negated_product_of ms)
  -- and the answer's, -2.0 times an `atanh`, once more
  pub answer : Nonzero (negated_product_of ms) → BelowPole (negated_product_of ms) → negative (ft8_answer ms) ≡ not (unlike (odd_negatives ms) (odd_length ms))

-- "With our convention, positive for 0, that gives the right sign in checks of 6 entries and the opposite in the 24 checks of 7": a check of so many entries
-- has 5 or 6 others. (Document 01: "24 checks have 7 entries, 59 have 6.")
pub record Ft8Signs : Type 0 where
  pub sixes : times 6 num_rows ≡ 59
  pub right : (ms : List Float) → length ms ≡ 5 → NoneNan ms → eq (negated_product_of ms) zero32 ≡ false → negative (ft8_answer ms) ≡ odd_negatives ms
  pub sevens : times 7 num_rows ≡ 24
  pub opposite : (ms : List Float) → length ms ≡ 6 → NoneNan ms → eq (negated_product_of ms) zero32 ≡ false → negative (ft8_answer ms) ≡ not (odd_negatives ms)
