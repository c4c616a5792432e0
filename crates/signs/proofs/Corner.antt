-- Why the law of the sign asks that the product is no NaN, which a comparison with zero does not say: `tanh` passes 1.0 just below its threshold, 12,334 such
-- factors make an infinity, and a zero after them a NaN. So of 12,335 messages, one of them negative and none a NaN, the product is not equal to zero and is
-- not negative. By computation. Assumes nothing.
use mathlib.Core.Path.{◌≡◌, refl, ap, ◌∙◌}
use mathlib.Core.Bool.{Bool, true, false, not}
use mathlib.Core.List.{List, [], ◌∷◌, map}
use Prim.Native.Nat.{ℕ, zero, suc}
use lib.Ieee.{Float, nan, inf, binary32, unlike, neg, lt, eq, add, sum, mul, div, is_nan, of_bits}
use Rattle.softmath.specs.Single.{◌⊗◌, zero32, one32, fold_from, product}
use Rattle.softmath.specs.Functions.{tanh, atanh}
use Rattle.softmath.specs.CheckNode.{half_tanh, ft8_answer}
use Rattle.signs.specs.Signs.{oddly, negative, odd_negatives, odd_length, NoneNan, empty, more}
use Rattle.signs.proofs.Laws.{false-unlike}

-- 9.94, and the `tanh` of its half: 1.0072193
abbrev pub large : Float
large = of_bits binary32 0x411f0a3d

abbrev factor : Float
factor = of_bits binary32 0x3f80ec90

large_factor : half_tanh large ≡ factor
unfolding tanh div mul add sum neg lt of_bits
large_factor = refl

-- x, n times, before the rest
pub repeat : ℕ → Float → List Float → List Float
repeat zero x rest = rest
repeat (suc n) x rest = x ∷ repeat n x rest

-- n factors t more
times : ℕ → Float → Float → Float
times zero t a = a
times (suc n) t a = times n t (a ⊗ t)

product_repeat : (n : ℕ) (a x : Float) (rest : List Float)
    → fold_from ◌⊗◌ a (map half_tanh (repeat n x rest)) ≡ fold_from ◌⊗◌ (times n (half_tanh x) a) (map half_tanh rest)
unfolding fold_from repeat times
product_repeat zero a x rest = refl
product_repeat (suc n) a x rest = product_repeat n (a ⊗ half_tanh x) x rest

odd_repeat : (n : ℕ) (x : Float) (rest : List Float) → negative x ≡ false → odd_negatives (repeat n x rest) ≡ odd_negatives rest
unfolding oddly repeat
odd_repeat zero x rest h = refl
odd_repeat (suc n) x rest h = rw (h, false-unlike (odd_negatives (repeat n x rest))) (odd_repeat n x rest h)

none_repeat : (n : ℕ) (x : Float) (rest : List Float) → is_nan x ≡ false → NoneNan rest → NoneNan (repeat n x rest)
unfolding repeat
none_repeat zero x rest h r = r
none_repeat (suc n) x rest h r = more h (none_repeat n x rest h r)

-- ---- the messages

pub messages : List Float
messages = neg large ∷ repeat 12333 large (zero32 ∷ [])

messages_number : NoneNan messages
unfolding messages is_nan neg of_bits
messages_number = more refl (none_repeat 12333 large (zero32 ∷ []) refl (more refl empty))

messages_odd : odd_negatives messages ≡ true
unfolding messages oddly lt neg of_bits
messages_odd = ap (λ (b : Bool). unlike true b) (odd_repeat 12333 large (zero32 ∷ []) refl)

overflow : times 12333 factor (one32 ⊗ half_tanh (neg large)) ≡ inf true
unfolding times tanh div mul add sum neg lt of_bits
overflow = refl

infinite_zero : fold_from ◌⊗◌ (inf true) (map half_tanh (zero32 ∷ [])) ≡ nan
unfolding fold_from tanh div mul add sum neg lt of_bits
infinite_zero = refl

messages_product : product (map half_tanh messages) ≡ nan
unfolding messages fold_from
messages_product =
    product_repeat 12333 (one32 ⊗ half_tanh (neg large)) large (zero32 ∷ [])
    ∙ ap (λ (t : Float). fold_from ◌⊗◌ (times 12333 t (one32 ⊗ half_tanh (neg large))) (map half_tanh (zero32 ∷ []))) large_factor
    ∙ ap (λ (a : Float). fold_from ◌⊗◌ a (map half_tanh (zero32 ∷ []))) overflow
    ∙ infinite_zero

-- an odd number of messages is negative, none is a NaN, and the product is neither equal to zero nor negative
pub record Counterexample (ms : List Float) : Type 0 where
  pub numbers : NoneNan ms
  pub odd : odd_negatives ms ≡ true
  pub nonzero : eq (product (map half_tanh ms)) zero32 ≡ false
  pub not_negative : negative (product (map half_tanh ms)) ≡ false

pub counterexample : Counterexample messages
unfolding eq lt
counterexample = record { numbers = messages_number; odd = messages_odd; nonzero = rw messages_product; not_negative = rw messages_product }

-- ---- a message that is no zero may make a factor that is one: half of the least value above zero is rounded to zero

pub least_factor : half_tanh (of_bits binary32 1) ≡ zero32
unfolding tanh div mul add sum neg lt of_bits
least_factor = refl

-- ---- why the answer of (174,91)'s rule asks for a product below the pole: 14 factors pass the pole of the `atanh`, and the sign turns

pub past_pole : (negative (ft8_answer (repeat 14 large [])) ≡ false)
    × (not (unlike (odd_negatives (repeat 14 large [])) (odd_length (repeat 14 large []))) ≡ true)
unfolding repeat fold_from oddly tanh atanh div mul add sum neg lt of_bits
past_pole = (refl, refl)

-- ---- the smallest check with others that shows the fault of the negated step: three entries, of which the two others hold 1.0

pub smallest_fault : (negative (ft8_answer (one32 ∷ one32 ∷ [])) ≡ true) × (odd_negatives (one32 ∷ one32 ∷ []) ≡ false)
unfolding fold_from oddly tanh atanh div mul add sum neg lt of_bits
smallest_fault = (refl, refl)
