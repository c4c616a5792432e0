-- The sign of a check's answer, from that of its product: `atanh` of what is at most 17 / 16 in size is finite and keeps the sign bit, and is no zero unless
-- that is. Its denominator is above zero there: x² (1050 - 225 x²) is at most 525 where x² is at most a half, at most 938 from there to 1, and at most 932 from
-- there to 289 / 256. Assumes nothing.
use mathlib.Core.Path.{◌≡◌, refl, ap, ◌∙◌}
use mathlib.Core.Bool.{Bool, true, false, not, cond, true≢false}
use mathlib.Core.List.{List, [], ◌∷◌, map}
use Prim.Native.Nat.{ℕ, zero, suc, ◌*◌, ◌≤◌, ◌<◌}
use native.Mathlib.Nat.{le_trans, le_of_eq, mul_right_comm, mul-mul-mul_comm, mul-le-mul, mul-le-mul_left, mul-le-mul_right, mul-pos, zero-mul}
use native.Mathlib.Nat.{le_of_mul-le-mul_right}
use native.Mathlib.Omega.{arith}
use borrow.Author.Tests.{ltb-true, ltb-false}
use lib.Dec.{T, ltb, lit≤, lit<}
use lib.IntN.{ℤ}
use lib.ListN.{length, replicate}
use lib.Ieee.{Float, fin, binary32, up, down, unlike, neg, lt, eq, mul, fits, of_bits}
use lib.Ieee.Fits.{down_pos, cond-fits, neg-fits, div-fits}
use lib.Ieee.Bits.{of_bits-fits}
use Rattle.softmath.specs.Single.{◌⊕◌, ◌⊗◌, zero32, one32, two32, product}
use Rattle.softmath.specs.Functions.{atanh, clamp_unit}
use Rattle.softmath.specs.CheckNode.{half_tanh, negated_half_tanh, clamped_answer, negated_answer, ft8_answer}
use Rattle.code174.proofs.Agreement.{agreed}
use Rattle.signs.specs.Signs.{oddly, negative, odd_negatives, odd_length, NoneNan, Nonzero, product_of, ProductSign, negated_product_of, near_pole, BelowPole}
use Rattle.signs.specs.Signs.{NegatedSign, Ft8Signs}
use Rattle.signs.proofs.Rounded.{Signed, infinite, finite, Held, Part, part, part_signed, round-part}
use Rattle.signs.proofs.Laws.{held, part_in, mul_part, less_part, div_part, false-unlike, true-unlike, sign_as, below_edge, above_edge}
use Rattle.softmath.proofs.Floats.{unlike-false, fold_fits}
use Rattle.signs.proofs.Tanh.{is_945}
use Rattle.signs.proofs.Laws.{between_edges}
use Rattle.signs.proofs.Floor.{Units, AtMost, at_most, times-units, quotient_nonzero, fits-units, twice_nonzero, square_at_most, held_tiny, held_near}
use Rattle.signs.proofs.Pole.{below_pole}
use Rattle.signs.proofs.Products.{nonzero-signed, signed_compared, product_sign, negated_sign, product-number, negated-number}

-- ---- the constants

is-minus-735 : Part true 735 735 (neg (of_bits binary32 0x4437c000))
unfolding neg of_bits
is-minus-735 = part (lit≤ tt) (lit≤ tt)

is_64 : Part false 64 64 (of_bits binary32 0x42800000)
unfolding of_bits
is_64 = part (lit≤ tt) (lit≤ tt)

is-minus-1050 : Part true 1050 1050 (neg (of_bits binary32 0x44834000))
unfolding neg of_bits
is-minus-1050 = part (lit≤ tt) (lit≤ tt)

is-225 : Part false 225 225 (of_bits binary32 0x43610000)
unfolding of_bits
is-225 = part (lit≤ tt) (lit≤ tt)

is_two : Part false 2 2 two32
unfolding of_bits
is_two = part (lit≤ tt) (lit≤ tt)

is-minus-two : Part true 2 2 (neg two32)
unfolding neg of_bits
is-minus-two = part (lit≤ tt) (lit≤ tt)

-- ---- the fraction's two parts, at x²

abbrev upper : Float → Float
upper xx = of_bits binary32 0x446c4000 ⊕ xx ⊗ (neg (of_bits binary32 0x4437c000) ⊕ xx ⊗ of_bits binary32 0x42800000)

abbrev middle : Float → Float
middle xx = neg (of_bits binary32 0x44834000) ⊕ xx ⊗ of_bits binary32 0x43610000

abbrev lower : Float → Float
lower xx = of_bits binary32 0x446c4000 ⊕ xx ⊗ middle xx

-- k / c at most of what is l at most is r at most
ratio : (k c l r a n e d : ℕ) → 0 < c → k * l ≤ r * c → a * c ≤ k * e → n ≤ l * d → a * n ≤ r * (e * d)
ratio k c l r a n e d p b h g =
    let both : a * c * n ≤ k * e * (l * d) = mul-le-mul h g in
    let left : a * n * c ≤ k * l * (e * d) = rw (mul_right_comm a n c, ← mul-mul-mul_comm k e l d) both in
    let right : k * l * (e * d) ≤ r * (e * d) * c = le_trans (mul-le-mul_right (e * d) b) (le_of_eq (mul_right_comm r c (e * d))) in
    le_of_mul-le-mul_right {m = a * n} {n = r * (e * d)} {k = c} (le_trans left right) p

ratio-part : (k c i l r : ℕ) → Held r → 0 < c → k * l ≤ r * c → (m : ℕ) (e : ℤ) → m * up e * c ≤ k * down e → {y : Float} → Part true i l y
    → Part true 0 r (fin false m e ⊗ y)
unfolding mul
ratio-part k c i l r q p b m e h (part {m = n} {e = d} lo hi) =
    round-part 0 r (m * up e * (n * up d)) (down e * down d) (held 0 tt) q (mul-pos (down_pos e) (down_pos d)) (omega (arith, zero-mul (down e * down d)))
    (ratio k c l r (m * up e) (n * up d) (down e) (down d) p b h hi) true

-- 225 x², for an x² of lo / 225 to hi / 225
scaled : (lo hi : ℕ) → Held lo → Held hi → (m : ℕ) (e : ℤ) → lo * (down e * 1) ≤ m * up e * 225 → m * up e * 225 ≤ hi * (down e * 1)
    → Part false lo hi (fin false m e ⊗ of_bits binary32 0x43610000)
unfolding mul of_bits
scaled lo hi p q m e h g = round-part lo hi (m * up e * 225) (down e * 1) p q (omega (arith, down_pos e)) h g false

-- x² is at most 289 / 256, so at most 2
module _ (m : ℕ) (e : ℤ) (h : m * up e * 256 ≤ 289 * down e) where
  two-part : Part false 0 2 (fin false m e)
  two-part =
      let lo : 0 * down e ≤ m * up e = omega (arith, zero-mul (down e)) in
      let hi : m * up e ≤ 2 * down e = omega arith in
      part lo hi

  upper-inner : Part true 607 735 (neg (of_bits binary32 0x4437c000) ⊕ fin false m e ⊗ of_bits binary32 0x42800000)
  upper-inner =
      less_part 735 735 0 128 607 735 (held 607 tt) (held 735 tt) (lit≤ tt) (lit≤ tt) (lit< tt) true is-minus-735
      (mul_part 0 2 64 64 (held 0 tt) (held 128 tt) two-part is_64)

  upper-near : Part false 115 945 (upper (fin false m e))
  upper-near =
      less_part 945 945 0 830 115 945 (held 115 tt) (held 945 tt) (lit≤ tt) (lit≤ tt) (lit< tt) false is_945
      (ratio-part 289 256 607 735 830 (held 830 tt) (lit< tt) (lit≤ tt) m e h upper-inner)

  -- x² at most a half, from there to 1, and from there on
  small : m * up e * 2 ≤ 1 * down e → Part true 0 938 (fin false m e ⊗ middle (fin false m e))
  small g =
      let a = mul_part 0 2 225 225 (held 0 tt) (held 450 tt) two-part is-225 in
      let b = less_part 1050 1050 0 450 600 1050 (held 600 tt) (held 1050 tt) (lit≤ tt) (lit≤ tt) (lit< tt) true is-minus-1050 a in
      ratio-part 1 2 600 1050 938 (held 938 tt) (lit< tt) (lit≤ tt) m e g b

  large : down e ≤ m * up e * 2 → m * up e * 1 ≤ 1 * down e → Part true 0 938 (fin false m e ⊗ middle (fin false m e))
  large g g' =
      let b = less_part 1050 1050 112 225 825 938 (held 825 tt) (held 938 tt) (lit≤ tt) (lit≤ tt) (lit< tt) true is-minus-1050
      (scaled 112 225 (held 112 tt) (held 225 tt) m e (omega arith) (omega arith)) in
      ratio-part 1 1 825 938 938 (held 938 tt) (lit< tt) (lit≤ tt) m e g' b

  over : down e ≤ m * up e → Part true 0 938 (fin false m e ⊗ middle (fin false m e))
  over g =
      let b = less_part 1050 1050 225 450 600 825 (held 600 tt) (held 825 tt) (lit≤ tt) (lit≤ tt) (lit< tt) true is-minus-1050
      (scaled 225 450 (held 225 tt) (held 450 tt) m e (omega arith) (omega arith)) in
      ratio-part 289 256 600 825 938 (held 938 tt) (lit< tt) (lit≤ tt) m e h b

  middle-product : Part true 0 938 (fin false m e ⊗ middle (fin false m e))
  middle-product = go (ltb (down e) (m * up e * 2)) (ltb (down e) (m * up e)) refl refl
    where
      go : (b c : Bool) → ltb (down e) (m * up e * 2) ≡ b → ltb (down e) (m * up e) ≡ c → Part true 0 938 (fin false m e ⊗ middle (fin false m e))
      go false c t u = small (let l = ltb-false (down e) (m * up e * 2) t in omega arith)
      go true false t u = large (let l = ltb-true (down e) (m * up e * 2) t in omega arith) (let l = ltb-false (down e) (m * up e) u in omega arith)
      go true true t u = over (let l = ltb-true (down e) (m * up e) u in omega arith)

  lower-near : Part false 7 945 (lower (fin false m e))
  lower-near = less_part 945 945 0 938 7 945 (held 7 tt) (held 945 tt) (lit≤ tt) (lit≤ tt) (lit< tt) false is_945 middle-product

upper-part : {xx : Float} → AtMost 289 256 xx → Part false 115 945 (upper xx)
upper-part (at_most {m = m} {e = e} h) = upper-near m e h

lower-part : {xx : Float} → AtMost 289 256 xx → Part false 7 945 (lower xx)
lower-part (at_most {m = m} {e = e} h) = lower-near m e h

-- ---- the functions

-- finite, with the sign bit s, and at most 17 / 16 in size
pub data Near (s : Bool) : Float → Type 0 where
  near : {m : ℕ} {e : ℤ} → m * up e * 16 ≤ 17 * down e → Near s (fin s m e)

near-part : {s : Bool} {x : Float} → Near s x → Part s 0 2 x
near-part {s} (near {m = m} {e = e} h) =
    let lo : 0 * down e ≤ m * up e = omega (arith, zero-mul (down e)) in
    let hi : m * up e ≤ 2 * down e = omega arith in
    part lo hi

unit-near : {s : Bool} {x : Float} → Part s 0 1 x → Near s x
unit-near (part {m = m} {e = e} lo hi) =
    let h : m * up e * 16 ≤ 17 * down e = omega arith in
    near h

square-near : {s : Bool} {x : Float} → Near s x → AtMost 289 256 (x ⊗ x)
square-near {s} (near {m = m} {e = e} h) = square_at_most 17 16 held_near (lit< tt) s m e h

pub atanh-kept : {s : Bool} {x : Float} → Near s x → Part s 0 270 (atanh x)
unfolding atanh
atanh-kept {s} g =
    let n = mul_part 0 2 115 945 (held 0 tt) (held 1890 tt) (near-part g) (upper-part (square-near g)) in
    sign_as (unlike-false s) (div_part 1890 7 945 270 (held 270 tt) (lit< tt) (lit≤ tt) (sign_as (unlike-false s) n) (lower-part (square-near g)))

is_one : Part false 1 1 one32
unfolding of_bits
is_one = part (lit≤ tt) (lit≤ tt)

minus_one : Part true 0 1 (neg one32)
unfolding neg of_bits
minus_one = part (lit≤ tt) (lit≤ tt)

clamp-kept : {s : Bool} {p : Float} → Signed s p → Part s 0 1 (clamp_unit p)
unfolding clamp_unit
clamp-kept {s} {p} g = go (lt p (neg one32)) (lt one32 p) refl refl
  where
    go : (a b : Bool) → lt p (neg one32) ≡ a → lt one32 p ≡ b → Part s 0 1 (cond a (neg one32) (cond b one32 p))
    go true b h k = rw (below_edge is_one g h) minus_one
    go false true h k = rw (above_edge is_one g k) (part_in 0 1 (lit≤ tt) (lit≤ tt) is_one)
    go false false h k = between_edges is_one g h k

-- ---- what is no zero has an `atanh` that is none: of a tiny x the fraction's upper part is 944 or more, and a larger x has size enough

upper-tiny : {xx : Float} → AtMost 1 1024 xx → Part false 944 945 (upper xx)
upper-tiny (at_most {m = m} {e = e} h) =
    less_part 945 945 0 1 944 945 (held 944 tt) (held 945 tt) (lit≤ tt) (lit≤ tt) (lit< tt) false is_945
    (ratio-part 1 1024 607 735 1 (held 1 tt) (lit< tt) (lit≤ tt) m e h (upper-inner m e (omega arith)))

module _ (s : Bool) (m : ℕ) (e : ℤ) (g : Near s (fin s m e)) (f : T (fits binary32 (fin s m e))) (z : eq (fin s m e) zero32 ≡ false) where
  numerator-units : Units 944 (fin s m e ⊗ upper (fin s m e ⊗ fin s m e))
  numerator-units = go (ltb (down e) (m * up e * 32)) refl
    where
      go : (b : Bool) → ltb (down e) (m * up e * 32) ≡ b → Units 944 (fin s m e ⊗ upper (fin s m e ⊗ fin s m e))
      go true t =
          let l = ltb-true (down e) (m * up e * 32) t in
          let h : 16 * down e ≤ m * up e * 512 = omega arith in
          times-units 16 115 945 (lit≤ tt) s m e (le_trans h (mul-le-mul_left (m * up e) (lit≤ tt))) (upper-part (square-near g))
      go false t =
          times-units 1 944 945 (lit≤ tt) s m e (fits-units s m e f z)
          (upper-tiny (square_at_most 1 32 held_tiny (lit< tt) s m e (let l = ltb-false (down e) (m * up e * 32) t in omega arith)))

  finite-nonzero : eq (atanh (fin s m e)) zero32 ≡ false
  unfolding atanh
  finite-nonzero =
      quotient_nonzero 7 (lit< tt) (mul_part 0 2 115 945 (held 0 tt) (held 1890 tt) (near-part g) (upper-part (square-near g))) numerator-units
      (lower-part (square-near g))

atanh-nonzero : {s : Bool} {x : Float} → Near s x → T (fits binary32 x) → eq x zero32 ≡ false → eq (atanh x) zero32 ≡ false
atanh-nonzero {s} (near {m = m} {e = e} h) f z = finite-nonzero s m e (near h) f z

-- ---- the answers

pub clamped-kept : {s : Bool} {p : Float} → Signed s p → Part s 0 540 (clamped_answer p)
clamped-kept {s} g = sign_as (false-unlike s) (mul_part 2 2 0 270 (held 0 tt) (held 540 tt) is_two (atanh-kept (unit-near (clamp-kept g))))

pub negated-kept : {s : Bool} {q : Float} → Near s q → Part (not s) 0 540 (negated_answer q)
negated-kept {s} g = sign_as (true-unlike s) (mul_part 2 2 0 270 (held 0 tt) (held 540 tt) is-minus-two (atanh-kept g))

-- f32 holds a product, the clamped one, and an `atanh`
product-fits : (ts : List Float) → T (fits binary32 (product ts))
product-fits ts = fold_fits one32 ts (of_bits-fits binary32 0x3f800000)

clamp-fits : (p : Float) → T (fits binary32 p) → T (fits binary32 (clamp_unit p))
unfolding clamp_unit
clamp-fits p f =
    let one = of_bits-fits binary32 0x3f800000 in
    cond-fits binary32 (lt p (neg one32)) (neg one32) (cond (lt one32 p) one32 p) (neg-fits binary32 one32 one) (cond-fits binary32 (lt one32 p) one32 p one f)

atanh-fits : (x : Float) → T (fits binary32 (atanh x))
unfolding atanh
atanh-fits x = div-fits binary32 _ _

ones-nonzero : (eq (neg one32) zero32 ≡ false) × (eq one32 zero32 ≡ false)
unfolding eq neg of_bits
ones-nonzero = (refl, refl)

clamp-nonzero : (p : Float) → eq p zero32 ≡ false → eq (clamp_unit p) zero32 ≡ false
unfolding clamp_unit
clamp-nonzero p z = go (lt p (neg one32)) (lt one32 p)
  where
    go : (a b : Bool) → eq (cond a (neg one32) (cond b one32 p)) zero32 ≡ false
    go true b = ones-nonzero.0
    go false true = ones-nonzero.1
    go false false = z

-- the answer has the product's sign, and at (174,91)'s rule the other one
clamped-sign : (p : Float) → T (fits binary32 p) → Nonzero p → negative (clamped_answer p) ≡ negative p
clamped-sign p f h =
    let g = nonzero-signed p h in
    let c = unit-near (clamp-kept g) in
    signed_compared (part_signed (clamped-kept g))
    (twice_nonzero is_two (atanh (clamp_unit p)) (atanh-fits (clamp_unit p)) (atanh-nonzero c (clamp-fits p f) (clamp-nonzero p h.nonzero)) (atanh-kept c))

near-pole : {s : Bool} {x : Float} → Signed s x → lt x (neg near_pole) ≡ false → lt near_pole x ≡ false → Near s x
unfolding lt neg of_bits
near-pole (infinite {s = true}) h g = absurd (true≢false h)
near-pole (infinite {s = false}) h g = absurd (true≢false g)
near-pole (finite {s = true} {m = m} {e = e}) h g = near (ltb-false (17 * down e) (m * up e * 16) h)
near-pole (finite {s = false} {m = m} {e = e}) h g = near (ltb-false (17 * down e) (m * up e * 16) g)

negated-sign-of : (q : Float) → T (fits binary32 q) → Nonzero q → BelowPole q → negative (negated_answer q) ≡ not (negative q)
negated-sign-of q f h u =
    let c = near-pole (nonzero-signed q h) u.from u.to in
    signed_compared (part_signed (negated-kept c)) (twice_nonzero is-minus-two (atanh q) (atanh-fits q) (atanh-nonzero c f h.nonzero) (atanh-kept c))

-- ---- the laws

worded : (ms : List Float) → NoneNan ms → length ms ≤ 25 → eq (product_of ms) zero32 ≡ false → negative (product_of ms) ≡ odd_negatives ms
worded ms ps l z = product_sign ms ps (record { number = product-number ms ps l; nonzero = z })

pub product-signs : (ms : List Float) → NoneNan ms → ProductSign ms
product-signs ms ps = record {
  worded = worded ms ps;
  sign = product_sign ms ps;
  number = product-number ms ps;
  answer = λ h. clamped-sign (product_of ms) (product-fits (map half_tanh ms)) h ∙ product_sign ms ps h;
}

pub negated-signs : (ms : List Float) → NoneNan ms → NegatedSign ms
negated-signs ms ps = record {
  sign = negated_sign ms ps;
  number = negated-number ms ps;
  low = below_pole ms ps;
  answer = λ h u. negated-sign-of (negated_product_of ms) (product-fits (map negated_half_tanh ms)) h u ∙ ap not (negated_sign ms ps h);
}

-- a check of up to seven entries
few-signs : (ms : List Float) → length ms ≤ 6 → NoneNan ms → eq (negated_product_of ms) zero32 ≡ false
    → negative (ft8_answer ms) ≡ not (unlike (odd_negatives ms) (odd_length ms))
few-signs ms h ps z =
    let signs = negated-signs ms ps in
    signs.answer (record { number = signs.number (omega arith); nonzero = z }) (signs.low h)

odd-of-length : (ms : List Float) (n : ℕ) → length ms ≡ n → odd_length ms ≡ odd_length (replicate n zero32)
unfolding oddly
odd-of-length [] zero h = refl
odd-of-length [] (suc n) h = absurd (omega arith)
odd-of-length (m ∷ ms) zero h = absurd (omega arith)
odd-of-length (m ∷ ms) (suc n) h = ap (unlike true) (odd-of-length ms n (omega arith))

twice-turned : (b : Bool) → not (unlike b true) ≡ b
twice-turned true = refl
twice-turned false = refl

pub ft8-signs : Ft8Signs
unfolding oddly
ft8-signs = record {
  sixes = agreed.sixes;
  right =
      λ ms l ps z. few-signs ms (omega arith) ps z ∙ ap (λ (b : Bool). not (unlike (odd_negatives ms) b)) (odd-of-length ms 5 l) ∙ twice-turned
      (odd_negatives ms);
  sevens = agreed.sevens;
  opposite =
      λ ms l ps z. few-signs ms (omega arith) ps z ∙ ap (λ (b : Bool). not (unlike (odd_negatives ms) b)) (odd-of-length ms 6 l) ∙ ap not
      (unlike-false (odd_negatives ms));
}
