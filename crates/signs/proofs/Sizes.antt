-- Sizes compared, whatever the signs: a product, a sum and a quotient of larger sizes are no smaller once rounded. Assumes nothing.
use mathlib.Core.Path.{◌≡◌, refl}
use mathlib.Core.Bool.{Bool, true, false}
use Prim.Native.Nat.{ℕ, ◌+◌, ◌*◌, ◌≤◌, ◌<◌}
use native.Mathlib.Nat.{le_of_eq, mul-pos, mul-le-mul, mul-le-mul_right, mul_comm, mul-mul-mul_comm, add-mul}
use native.Mathlib.Omega.{arith}
use borrow.Author.Tests.{ne_eqb}
use lib.Dec.{T}
use lib.IntN.{ℤ}
use lib.Ieee.{Float, fin, binary32, up, down, unlike, round, sum, add, mul, div, neg, le}
use lib.Ieee.Fits.{down_pos}
use lib.Ieee.Order.{round_mono}
use lib.Ieee.Positive.{through}
use Rattle.softmath.specs.Single.{◌⊕◌, ◌⊗◌, ◌⊘◌}
use Rattle.signs.proofs.Rounded.{Signed, infinite, finite, Part, part, or_le, round-signed, round-neg}
use Rattle.signs.proofs.Laws.{filled, no_zero, unlike_self}

-- both finite, and the first no larger in size than the second
pub data Leq : Float → Float → Type 0 where
  leq : {s t : Bool} {m n : ℕ} {e d : ℤ} → m * up e * down d ≤ n * up d * down e → Leq (fin s m e) (fin t n d)

pub leq_refl : {s : Bool} {j k : ℕ} {x : Float} → Part s j k x → Leq x x
leq_refl (part {m = m} {e = e} lo hi) = leq {m = m} {e = e} (le_of_eq refl)

pub leq_trans : {x y z : Float} → Leq x y → Leq y z → Leq x z
leq_trans (leq {m = m} {n = n} {e = e} {d = d} h) (leq {n = l} {d = c} g) =
    leq (through (m * up e) (n * up d) (l * up c) (down e) (down d) (down c) (down_pos d) h g)

neg_leq : {x y : Float} → Leq x y → Leq (neg x) y
unfolding neg
neg_leq (leq h) = leq h

pub leq_of_le : {j k : ℕ} {x y : Float} → Signed false x → Part false j k y → T (le x y) → Leq x y
unfolding le
leq_of_le infinite (part lo hi) t = absurd t
leq_of_le finite (part lo hi) t = leq (or_le _ _ t)

-- ---- rounding

module _ (a b c d : ℕ) (p : 0 < b) (q : 0 < d) (h : a * d ≤ c * b) {j k : ℕ} (g : Part false j k (round binary32 false c d)) where
  plain-leq : Leq (round binary32 false a b) (round binary32 false c d)
  plain-leq = leq_of_le (round-signed false a b) g (round_mono binary32 a b c d p q h)

  round-leq : (s : Bool) → Leq (round binary32 s a b) (round binary32 false c d)
  round-leq false = plain-leq
  round-leq true = rw (round-neg a b) (neg_leq plain-leq)

-- ---- the operations: the larger operands are not negative

-- a / b times a' / b', against c / d times c' / d'
cross_product : (a b c d a' b' c' d' : ℕ) → a * d ≤ c * b → a' * d' ≤ c' * b' → a * a' * (d * d') ≤ c * c' * (b * b')
cross_product a b c d a' b' c' d' h g = rw (mul-mul-mul_comm a a' d d', mul-mul-mul_comm c c' b b') (mul-le-mul h g)

pub mul_leq : {j k i l i' l' : ℕ} {x x' y y' : Float} → Part false i l y → Part false i' l' y' → Part false j k (y ⊗ y') → Leq x y → Leq x' y'
    → Leq (x ⊗ x') (y ⊗ y')
unfolding mul
mul_leq (part lo hi) (part lo' hi') g (leq {s = s} {m = m} {n = n} {e = e} {d = d} h) (leq {s = s'} {m = m'} {n = n'} {e = e'} {d = d'} h') =
    round-leq (m * up e * (m' * up e')) (down e * down e') (n * up d * (n' * up d')) (down d * down d')
    (mul-pos (down_pos e) (down_pos e')) (mul-pos (down_pos d) (down_pos d'))
    (cross_product (m * up e) (down e) (n * up d) (down d) (m' * up e') (down e') (n' * up d') (down d') h h') g (unlike s s')

-- a square is not negative, whatever the signs
pub square_leq : {i l i' l' j k : ℕ} {s t : Bool} {x y : Float} → Part s i l x → Part t i' l' y → Part false j k (y ⊗ y) → Leq x y → Leq (x ⊗ x) (y ⊗ y)
unfolding mul
square_leq {s = s} {t = t} (part {m = m} {e = e} _ _) (part {m = n} {e = d} _ _) g (leq h) =
    rw (unlike_self s, unlike_self t)
    (round-leq (m * up e * (m * up e)) (down e * down e) (n * up d * (n * up d)) (down d * down d) (mul-pos (down_pos e) (down_pos e))
    (mul-pos (down_pos d) (down_pos d))
    (cross_product (m * up e) (down e) (n * up d) (down d) (m * up e) (down e) (n * up d) (down d) h h) (rw (unlike_self t) at g) false)

-- one part of a sum, brought to the common divisor
cross_part : (a b c d b' d' : ℕ) → a * d ≤ c * b → a * b' * (d * d') ≤ c * d' * (b * b')
cross_part a b c d b' d' h =
    rw (mul-mul-mul_comm a b' d d', mul-mul-mul_comm c d' b b', mul_comm d' b') (mul-le-mul_right (b' * d') h)

cross_sum : (a b c d a' b' c' d' : ℕ) → a * d ≤ c * b → a' * d' ≤ c' * b' → (a * b' + a' * b) * (d * d') ≤ (c * d' + c' * d) * (b * b')
cross_sum a b c d a' b' c' d' h h' =
    let x : a * b' * (d * d') ≤ c * d' * (b * b') = cross_part a b c d b' d' h in
    let y : a' * b * (d * d') ≤ c' * d * (b * b') = rw (mul_comm d d', mul_comm b b') (cross_part a' b' c' d' b d h') in
    rw (add-mul, add-mul) (omega arith)

pub add_leq : {i l i' l' i'' l'' i''' l''' j k : ℕ} {x x' y y' : Float} → Part false i l x → Part false i' l' x' → Part false i'' l'' y
    → Part false i''' l''' y'
    → Part false j k (y ⊕ y') → Leq x y → Leq x' y' → Leq (x ⊕ x') (y ⊕ y')
unfolding add sum
add_leq (part _ _) (part _ _) (part _ _) (part _ _) g (leq {m = m} {n = n} {e = e} {d = d} h) (leq {m = m'} {n = n'} {e = e'} {d = d'} h') =
    round-leq (m * up e * down e' + m' * up e' * down e) (down e * down e') (n * up d * down d' + n' * up d' * down d) (down d * down d')
    (mul-pos (down_pos e) (down_pos e')) (mul-pos (down_pos d) (down_pos d'))
    (cross_sum (m * up e) (down e) (n * up d) (down d) (m' * up e') (down e') (n' * up d') (down d') h h') g false

-- a / b over a' / b', against c / d over c' / d', of which the divisor is the smaller
cross_quotient : (a b c d a' b' c' d' : ℕ) → a * d ≤ c * b → c' * b' ≤ a' * d' → a * b' * (c' * d) ≤ c * d' * (a' * b)
cross_quotient a b c d a' b' c' d' h h' = rw (left, right) (mul-le-mul h h')
  where
    left : a * b' * (c' * d) ≡ a * d * (c' * b')
    left = simp (mul_comm, mul-mul-mul_comm)

    right : c * d' * (a' * b) ≡ c * b * (a' * d')
    right = simp (mul_comm, mul-mul-mul_comm)

pub div_leq : {i l k i' l' k' i'' l'' : ℕ} {x x' y y' : Float} → 0 < k → 0 < k' → Part false k l x' → Part false i' l' y → Part false k' i y'
    → Part false i'' l'' (y ⊘ y') → Leq x y → Leq y' x' → Leq (x ⊘ x') (y ⊘ y')
unfolding div
div_leq {k = k} {k' = k'} p p' (part {m = m'} {e = e'} lo hi) (part {m = n} {e = d} _ _) (part {m = n'} {e = d'} lo' hi') g (leq {s = s} {m = m} {e = e} h)
    (leq h') =
    let some = filled k m' (up e') (down e') p (down_pos e') lo in
    let some' = filled k' n' (up d') (down d') p' (down_pos d') lo' in
    let divided = ne_eqb n' 0 (no_zero n' (up d') some') in
    rw (ne_eqb m' 0 (no_zero m' (up e') some), divided)
    (round-leq (m * up e * down e') (m' * up e' * down e) (n * up d * down d') (n' * up d' * down d) (mul-pos some (down_pos e)) (mul-pos some' (down_pos d))
    (cross_quotient (m * up e) (down e) (n * up d) (down d) (m' * up e') (down e') (n' * up d') (down d') h h') (rw divided at g) (unlike s false))
