-- A product of `tanh`s of messages that are no NaN is a NaN, a zero, or has the sign bit that the number of negative messages says: by induction over the
-- messages, from the laws of signs. So where it is neither, it is negative exactly if that number is odd. Assumes nothing.
use mathlib.Core.Path.{◌≡◌, refl, sym, subst, ◌∙◌}
use mathlib.Core.Logic.{◌⊎◌, inl, inr}
use mathlib.Core.Bool.{Bool, true, false, not, beq, ◌&&◌, ◌||◌, true≢false}
use mathlib.Core.List.{List, [], ◌∷◌, map}
use Prim.Native.Nat.{ℕ, zero, suc, ◌+◌, ◌*◌, ◌^◌, ◌≤◌, ◌<◌}
use native.Mathlib.Nat.{le_trans, le_of_eq, mul-one, mul-pos, zero-mul, mul-le-mul_left}
use native.Mathlib.Omega.{arith}
use borrow.Author.Tests.{lt-ltb, le-ltb, eq-eqb}
use lib.Dec.{lit≤}
use lib.Pow.{pow-add}
use lib.ListN.{length}
use lib.IntN.{ℤ}
use lib.Ieee.{Float, nan, inf, fin, up, down, unlike, neg, lt, eq, mul, is_nan, of_bits}
use lib.Ieee.Fits.{up_pos, down_pos}
use Rattle.softmath.specs.Single.{◌⊗◌, zero32, one32, fold_from, product}
use Rattle.softmath.specs.CheckNode.{half_tanh, negated_half_tanh}
use Rattle.signs.specs.Signs.{oddly, negative, odd_negatives, odd_length, NoneNan, empty, more, Nonzero}
use Rattle.signs.proofs.Rounded.{Signed, infinite, finite, Part, part, part_signed}
use Rattle.signs.proofs.Laws.{mul-signed, false-unlike, Bounded, bounded, Zero, bounded_in, bounded_number, mul_bounded, zero-times}
use Rattle.softmath.proofs.Floats.{unlike-false}
use Rattle.signs.proofs.Laws.{times_zero, held_power}
use Rattle.signs.proofs.Tanh.{half_tanh-kept, half_tanh-zero}

-- ---- a message, by its sign as the decoder compares

-- a finite value of no size has no digits
no_digits : (m : ℕ) (e : ℤ) → m * up e ≤ 0 * down e → m ≡ 0
no_digits zero e h = refl
no_digits (suc m) e h =
    let p : 0 < suc m = omega arith in
    absurd (omega (arith, mul-pos p (up_pos e), zero-mul (down e)))

pub zero-digits : (s : Bool) (e : ℤ) → Zero (fin s zero e)
zero-digits s e =
    let lo : 0 * down e ≤ 0 * up e = omega (arith, zero-mul (up e), zero-mul (down e)) in
    let hi : 0 * up e ≤ 0 * down e = omega (arith, zero-mul (up e), zero-mul (down e)) in
    bounded {s = s} (part lo hi)

some-digits : (m : ℕ) (e : ℤ) → 0 < suc m * up e * 1 + 0 * down e
some-digits m e = let p : 0 < suc m = omega arith in omega (arith, mul-pos p (up_pos e))

pub message : (m : Float) → is_nan m ≡ false → Zero m ⊎ Signed (negative m) m
unfolding is_nan lt of_bits
message nan h = absurd (true≢false h)
message (inf s) h = inr infinite
message (fin s zero e) h = inl (zero-digits s e)
message (fin true (suc m) e) h = inr (rw (lt-ltb 0 (suc m * up e * 1 + 0 * down e) (some-digits m e)) finite)
message (fin false (suc m) e) h = inr (rw (le-ltb (suc m * up e * 1) (0 * down e) (omega (arith, zero-mul (down e)))) finite)

-- ---- one factor more

-- a NaN, a zero, or a value with the sign bit s
data Outcome (s : Bool) : Float → Type 0 where
  lost : Outcome s nan
  none : {x : Float} → Zero x → Outcome s x
  kept : {x : Float} → Signed s x → Outcome s x

known : (s : Bool) (x : Float) → (is_nan x ≡ false → Signed s x) → Outcome s x
unfolding is_nan
known s nan f = lost
known s (inf t) f = kept (f refl)
known s (fin t m e) f = kept (f refl)

own_bound : (s : Bool) (m : ℕ) (e : ℤ) → Bounded (m * up e) (fin s m e)
own_bound s m e =
    let lo : 0 * down e ≤ m * up e = omega (arith, zero-mul (down e)) in
    let hi : m * up e ≤ m * up e * down e = le_trans (le_of_eq (sym (mul-one (m * up e)))) (mul-le-mul_left (m * up e) (down_pos e)) in
    bounded {s = s} (part lo hi)

infinite_zero : (s u : Bool) (y : Float) → Zero y → Outcome u (inf s ⊗ y)
unfolding mul
infinite_zero s u y (bounded (part {m = n} {e = d} lo hi)) = rw (eq-eqb n 0 (no_digits n d hi)) lost

-- a zero makes a zero, or a NaN of an infinity
step-zero : {s : Bool} (u : Bool) {a y : Float} → Outcome s a → Zero y → Outcome u (a ⊗ y)
unfolding mul
step-zero u lost z = lost
step-zero u (none x) z = none (zero-times 0 x z)
step-zero u {y = y} (kept (infinite {s = s})) z = infinite_zero s u y z
step-zero u (kept (finite {s = s} {m = m} {e = e})) z = none (times_zero (m * up e) (own_bound s m e) z)

-- any other factor that is finite turns the sign or keeps it
step_kept : {s t : Bool} {a y : Float} → Outcome s a → Part t 0 23 y → Outcome (unlike s t) (a ⊗ y)
unfolding mul
step_kept lost p = lost
step_kept (none z) p = none (zero-times 23 z (bounded p))
step_kept {s} {t} {a} {y} (kept g) p = known (unlike s t) (a ⊗ y) (mul-signed g (part_signed p))

-- ---- the product

unlike_assoc : (s t u : Bool) → unlike (unlike s t) u ≡ unlike s (unlike t u)
unlike_assoc true true u = twice u
  where
    twice : (u : Bool) → unlike false u ≡ unlike true (unlike true u)
    twice true = refl
    twice false = refl
unlike_assoc true false true = refl
unlike_assoc true false false = refl
unlike_assoc false true true = refl
unlike_assoc false true false = refl
unlike_assoc false false true = refl
unlike_assoc false false false = refl

one_bounded : Bounded (2 ^ 0) one32
unfolding of_bits
one_bounded = bounded {s = false} (part (lit≤ tt) (lit≤ tt))

-- a factor for each message, which is a zero, or finite with the sign bit `has`
abbrev Law : (Float → Float) → (Float → Bool) → Float → Type 0
Law factor has m = Zero (factor m) ⊎ Part (has m) 0 23 (factor m)

module _ (factor : Float → Float) (has : Float → Bool) (law : (m : Float) → is_nan m ≡ false → Law factor has m) where
  step : (s : Bool) (a m : Float) → Outcome s a → Law factor has m → Outcome (unlike s (has m)) (a ⊗ factor m)
  step s a m o (inl z) = step-zero (unlike s (has m)) o z
  step s a m o (inr g) = step_kept o g

  from : (s : Bool) (a : Float) (ms : List Float) → Outcome s a → NoneNan ms → Outcome (unlike s (oddly has ms)) (fold_from ◌⊗◌ a (map factor ms))
  unfolding oddly fold_from
  from s a [] o empty = rw (unlike-false s) o
  from s a (m ∷ ms) o (more p ps) = rw (← unlike_assoc s (has m) (oddly has ms)) (from (unlike s (has m)) (a ⊗ factor m) ms (step s a m o (law m p)) ps)

  outcome : (ms : List Float) → NoneNan ms → Outcome (oddly has ms) (product (map factor ms))
  unfolding of_bits
  outcome ms ps = subst (λ (t : Bool). Outcome t (product (map factor ms))) (false-unlike (oddly has ms)) (from false one32 ms (kept finite) ps)

  -- a factor is at most 32 in size, so 25 of them make no infinity, and no NaN
  factor-bounded : (m : Float) → Law factor has m → Bounded (2 ^ 5) (factor m)
  factor-bounded m (inl z) = bounded_in 32 (lit≤ tt) z
  factor-bounded m (inr g) = bounded_in 32 (lit≤ tt) (bounded g)

  number-from : (k : ℕ) (a : Float) (ms : List Float) → Bounded (2 ^ k) a → NoneNan ms → k + 5 * length ms ≤ 127
      → is_nan (fold_from ◌⊗◌ a (map factor ms)) ≡ false
  unfolding fold_from
  number-from k a [] b empty h = bounded_number b
  number-from k a (m ∷ ms) b (more p ps) h =
      let c : k + 5 ≤ 127 = omega arith in
      let r : Bounded (2 ^ k * 2 ^ 5) (a ⊗ factor m) = mul_bounded (2 ^ k) (2 ^ 5) (rw (← pow-add 2 k 5) (held_power (k + 5) c)) b
      (factor-bounded m (law m p)) in
      number-from (k + 5) (a ⊗ factor m) ms (rw (pow-add 2 k 5) r) ps (omega arith)

  number : (ms : List Float) → NoneNan ms → length ms ≤ 25 → is_nan (product (map factor ms)) ≡ false
  number ms ps h = number-from 0 one32 ms one_bounded ps (omega arith)

-- ---- what the decoder's comparison says of it

pub zero_equal : {x : Float} → Zero x → eq x zero32 ≡ true
unfolding eq of_bits
zero_equal (bounded {s = s} (part {m = m} {e = e} lo hi)) =
    let k = zero-mul (down e) in
    rw (eq-eqb (m * up e * 1) (0 * down e) (omega arith), eq-eqb (m * up e * 1) 0 (omega arith)) (or-true (beq s false))
  where
    or-true : (b : Bool) → (true && (b || true)) ≡ true
    or-true true = refl
    or-true false = refl

pub signed_compared : {s : Bool} {x : Float} → Signed s x → eq x zero32 ≡ false → negative x ≡ s
unfolding lt of_bits
signed_compared infinite h = refl
signed_compared (finite {s = true} {m = zero} {e = e}) h = absurd (true≢false (sym (zero_equal (zero-digits true e)) ∙ h))
signed_compared (finite {s = true} {m = suc m} {e = e}) h = lt-ltb 0 (suc m * up e * 1 + 0 * down e) (some-digits m e)
signed_compared (finite {s = false} {m = m} {e = e}) h = le-ltb (m * up e * 1) (0 * down e) (omega (arith, zero-mul (down e)))

-- what is neither a NaN nor a zero has the sign bit that the comparison says
pub nonzero-signed : (x : Float) → Nonzero x → Signed (negative x) x
nonzero-signed x h = go (message x h.number)
  where
    go : Zero x ⊎ Signed (negative x) x → Signed (negative x) x
    go (inl z) = absurd (true≢false (sym (zero_equal z) ∙ h.nonzero))
    go (inr g) = g

compared : (s : Bool) (x : Float) → Outcome s x → Nonzero x → negative x ≡ s
unfolding is_nan
compared s nan lost h = absurd (true≢false h.number)
compared s x (none z) h = absurd (true≢false (sym (zero_equal z) ∙ h.nonzero))
compared s x (kept g) h = signed_compared g h.nonzero

-- ---- the two products

half_law : (m : Float) → is_nan m ≡ false → Law half_tanh negative m
half_law m h = go (message m h)
  where
    go : Zero m ⊎ Signed (negative m) m → Law half_tanh negative m
    go (inl z) = inl (half_tanh-zero m z)
    go (inr g) = inr (half_tanh-kept g)

pub product_sign : (ms : List Float) → NoneNan ms → Nonzero (product (map half_tanh ms)) → negative (product (map half_tanh ms)) ≡ odd_negatives ms
product_sign ms ps h = compared (odd_negatives ms) (product (map half_tanh ms)) (outcome half_tanh negative half_law ms ps) h

pub neg-kept : {s : Bool} {m : Float} → Signed s m → Signed (not s) (neg m)
unfolding neg
neg-kept infinite = infinite
neg-kept finite = finite

neg-zero : {m : Float} → Zero m → Zero (neg m)
unfolding neg
neg-zero (bounded {s = s} (part lo hi)) = bounded {s = not s} (part lo hi)

abbrev not_negative : Float → Bool
not_negative m = not (negative m)

negated_law : (m : Float) → is_nan m ≡ false → Law negated_half_tanh not_negative m
negated_law m h = go (message m h)
  where
    go : Zero m ⊎ Signed (negative m) m → Law negated_half_tanh not_negative m
    go (inl z) = inl (half_tanh-zero (neg m) (neg-zero z))
    go (inr g) = inr (half_tanh-kept (neg-kept g))

-- turning every sign turns the product's once for each factor
turn : (a b l : Bool) → unlike (not a) (unlike b l) ≡ unlike (unlike a b) (unlike true l)
turn true true true = refl
turn true true false = refl
turn true false true = refl
turn true false false = refl
turn false true true = refl
turn false true false = refl
turn false false true = refl
turn false false false = refl

turned : (ms : List Float) → oddly not_negative ms ≡ unlike (odd_negatives ms) (odd_length ms)
unfolding oddly
turned [] = refl
turned (m ∷ ms) = rw (turned ms) (turn (negative m) (odd_negatives ms) (odd_length ms))

pub negated_sign : (ms : List Float) → NoneNan ms → Nonzero (product (map negated_half_tanh ms))
    → negative (product (map negated_half_tanh ms)) ≡ unlike (odd_negatives ms) (odd_length ms)
negated_sign ms ps h =
    compared (oddly not_negative ms) (product (map negated_half_tanh ms)) (outcome negated_half_tanh not_negative negated_law ms ps) h ∙ turned ms

-- ---- up to 25 messages, neither product is a NaN

pub product-number : (ms : List Float) → NoneNan ms → length ms ≤ 25 → is_nan (product (map half_tanh ms)) ≡ false
product-number = number half_tanh negative half_law

pub negated-number : (ms : List Float) → NoneNan ms → length ms ≤ 25 → is_nan (product (map negated_half_tanh ms)) ≡ false
negated-number = number negated_half_tanh not_negative negated_law
