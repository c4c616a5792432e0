-- `tanh` of what is no NaN is finite, at most 23 in size, and has its sign bit; of a zero it is a zero. Halving first changes nothing of this.
-- Between two points its fraction is at most the upper part at the one over the lower part at the other. Assumes nothing.
use mathlib.Core.Path.{◌≡◌, refl, subst}
use mathlib.Core.Bool.{Bool, true, false, cond}
use Prim.Native.Nat.{◌*◌}
use lib.Dec.{lit≤, lit<}
use lib.Ieee.{Float, fin, binary32, up, down, unlike, neg, lt, div, of_bits}
use Rattle.softmath.specs.Single.{◌⊕◌, ◌⊗◌, ◌⊘◌, one32, two32}
use Rattle.softmath.specs.Functions.{tanh, tanh_fraction}
use Rattle.softmath.specs.CheckNode.{half_tanh}
use Rattle.signs.proofs.Rounded.{Signed, infinite, finite, Part, part, round-signed}
use Rattle.signs.proofs.Sizes.{Leq, leq_refl, mul_leq, square_leq, add_leq, div_leq}
use Rattle.signs.proofs.Laws.{held, part_in, mul_part, add_part, div_part, unlike_self, sign_as, Zero, bounded, below_edge, above_edge}
use Rattle.softmath.proofs.Floats.{unlike-false}
use Rattle.signs.proofs.Laws.{between_edges, zero-not_below, zero-not-above}

-- ---- the constants

pub is_945 : Part false 945 945 (of_bits binary32 0x446c4000)
unfolding of_bits
is_945 = part (lit≤ tt) (lit≤ tt)

is_105 : Part false 105 105 (of_bits binary32 0x42d20000)
unfolding of_bits
is_105 = part (lit≤ tt) (lit≤ tt)

is_420 : Part false 420 420 (of_bits binary32 0x43d20000)
unfolding of_bits
is_420 = part (lit≤ tt) (lit≤ tt)

is_15 : Part false 15 15 (of_bits binary32 0x41700000)
unfolding of_bits
is_15 = part (lit≤ tt) (lit≤ tt)

-- ---- the fraction's two parts, at an x² that is at most 25

abbrev pub upper : Float → Float
upper xx = of_bits binary32 0x446c4000 ⊕ xx ⊗ (of_bits binary32 0x42d20000 ⊕ xx)

abbrev pub lower : Float → Float
lower xx = of_bits binary32 0x446c4000 ⊕ xx ⊗ (of_bits binary32 0x43d20000 ⊕ xx ⊗ of_bits binary32 0x41700000)

module _ {xx : Float} (g : Part false 0 25 xx) where
  upper-sum : Part false 105 130 (of_bits binary32 0x42d20000 ⊕ xx)
  upper-sum = add_part 105 105 0 25 (held 105 tt) (held 130 tt) is_105 g

  upper-product : Part false 0 3250 (xx ⊗ (of_bits binary32 0x42d20000 ⊕ xx))
  upper-product = mul_part 0 25 105 130 (held 0 tt) (held 3250 tt) g upper-sum

  pub upper-part : Part false 945 4195 (upper xx)
  upper-part = add_part 945 945 0 3250 (held 945 tt) (held 4195 tt) is_945 upper-product

  lower-square : Part false 0 375 (xx ⊗ of_bits binary32 0x41700000)
  lower-square = mul_part 0 25 15 15 (held 0 tt) (held 375 tt) g is_15

  lower-sum : Part false 420 795 (of_bits binary32 0x43d20000 ⊕ xx ⊗ of_bits binary32 0x41700000)
  lower-sum = add_part 420 420 0 375 (held 420 tt) (held 795 tt) is_420 lower-square

  lower-product : Part false 0 19875 (xx ⊗ (of_bits binary32 0x43d20000 ⊕ xx ⊗ of_bits binary32 0x41700000))
  lower-product = mul_part 0 25 420 795 (held 0 tt) (held 19875 tt) g lower-sum

  pub lower-part : Part false 945 20820 (lower xx)
  lower-part = add_part 945 945 0 19875 (held 945 tt) (held 20820 tt) is_945 lower-product

-- they rise with x²
module _ {a b : Float} (p : Part false 0 25 a) (q : Part false 0 25 b) (h : Leq a b) where
  pub upper-leq : Leq (upper a) (upper b)
  upper-leq =
      let inner = add_leq is_105 p is_105 q (upper-sum q) (leq_refl is_105) h in
      let product = mul_leq q (upper-sum q) (upper-product q) h inner in
      add_leq is_945 (upper-product p) is_945 (upper-product q) (upper-part q) (leq_refl is_945) product

  pub lower-leq : Leq (lower a) (lower b)
  lower-leq =
      let square = mul_leq q is_15 (lower-square q) h (leq_refl is_15) in
      let inner = add_leq is_420 (lower-square p) is_420 (lower-square q) (lower-sum q) (leq_refl is_420) square in
      let product = mul_leq q (lower-sum q) (lower-product q) h inner in
      add_leq is_945 (lower-product p) is_945 (lower-product q) (lower-part q) (leq_refl is_945) product

-- ---- the fraction, of an x that is at most 5 in size

pub square : {s : Bool} {x : Float} → Part s 0 5 x → Part false 0 25 (x ⊗ x)
square {s} g = sign_as (unlike_self s) (mul_part 0 5 0 5 (held 0 tt) (held 25 tt) g g)

-- its upper part at h over its lower part at l
abbrev pub ratio : Float → Float → Float
ratio h l = (h ⊗ upper (h ⊗ h)) ⊘ lower (l ⊗ l)

module _ {s t : Bool} {l h : Float} (p : Part t 0 5 l) (q : Part s 0 5 h) where
  numerator : Part s 0 20975 (h ⊗ upper (h ⊗ h))
  numerator = sign_as (unlike-false s) (mul_part 0 5 945 4195 (held 0 tt) (held 20975 tt) q (upper-part (square q)))

  pub ratio-part : Part s 0 23 (ratio h l)
  ratio-part = sign_as (unlike-false s) (div_part 20975 945 20820 23 (held 23 tt) (lit< tt) (lit≤ tt) numerator (lower-part (square p)))

-- between l and h the fraction, which is `ratio x x`, is at most `ratio h l`
pub ratio_leq : {s : Bool} {l x h : Float} → Part false 0 5 l → Part s 0 5 x → Part false 0 5 h → Leq l x → Leq x h → Leq (ratio x x) (ratio h l)
ratio_leq p g q lo hi =
    let over = upper-leq (square g) (square q) (square_leq g q (square q) hi) in
    let under = lower-leq (square p) (square g) (square_leq p g (square g) lo) in
    div_leq (lit< tt) (lit< tt) (lower-part (square g)) (numerator p q) (lower-part (square p)) (ratio-part p q)
    (mul_leq q (upper-part (square q)) (numerator p q) hi over) under

fraction-zero : {s : Bool} {x : Float} → Part s 0 0 x → Part s 0 0 (tanh_fraction x (x ⊗ x))
fraction-zero {s} z =
    let g = part_in 0 5 (lit≤ tt) (lit≤ tt) z in
    let n = mul_part 0 0 945 4195 (held 0 tt) (held 0 tt) z (upper-part (square g)) in
    sign_as (unlike-false s) (div_part 0 945 20820 0 (held 0 tt) (lit< tt) (lit≤ tt) (sign_as (unlike-false s) n) (lower-part (square g)))

-- ---- the thresholds

-- 4.97
abbrev pub edge : Float
edge = of_bits binary32 0x409f0a3d

pub is_edge : Part false 4 5 edge
unfolding of_bits
is_edge = part (lit≤ tt) (lit≤ tt)

-- ---- the function

minus_one : Part true 0 23 (neg one32)
unfolding neg of_bits
minus_one = part (lit≤ tt) (lit≤ tt)

plus_one : Part false 0 23 one32
unfolding of_bits
plus_one = part (lit≤ tt) (lit≤ tt)

pub tanh-kept : {s : Bool} {x : Float} → Signed s x → Part s 0 23 (tanh x)
unfolding tanh
tanh-kept {s} {x} g = go (lt x (neg edge)) (lt edge x) refl refl
  where
    go : (a b : Bool) → lt x (neg edge) ≡ a → lt edge x ≡ b → Part s 0 23 (cond a (neg one32) (cond b one32 (tanh_fraction x (x ⊗ x))))
    go true b p q = rw (below_edge is_edge g p) minus_one
    go false true p q = rw (above_edge is_edge g q) plus_one
    go false false p q = let h = between_edges is_edge g p q in ratio-part h h

pub tanh-zero : {s : Bool} {x : Float} → Part s 0 0 x → Part s 0 0 (tanh x)
unfolding tanh
tanh-zero z = rw (zero-not_below is_edge z, zero-not-above is_edge z) (fraction-zero z)

-- ---- the half

is_two : Part false 2 2 two32
unfolding of_bits
is_two = part (lit≤ tt) (lit≤ tt)

pub half_kept : {s : Bool} {m : Float} → Signed s m → Signed s (m ⊘ two32)
unfolding div of_bits
half_kept (infinite {s = s}) = rw (unlike-false s) infinite
half_kept (finite {s = s} {m = m} {e = e}) =
    subst (λ (t : Bool). Signed t (fin s m e ⊘ two32)) (unlike-false s) (round-signed (unlike s false) (m * up e * 1) (2 * down e))

half_zero : {s : Bool} {m : Float} → Part s 0 0 m → Part s 0 0 (m ⊘ two32)
half_zero {s} z = sign_as (unlike-false s) (div_part 0 2 2 0 (held 0 tt) (lit< tt) (lit≤ tt) z is_two)

-- the `tanh` of half a message: its sign bit, and a zero of a zero
pub half_tanh-kept : {s : Bool} {m : Float} → Signed s m → Part s 0 23 (half_tanh m)
half_tanh-kept g = tanh-kept (half_kept g)

pub half_tanh-zero : (m : Float) → Zero m → Zero (half_tanh m)
half_tanh-zero m (bounded z) = bounded (tanh-zero (half_zero z))
