-- How small a value above zero can get: sizes counted in f32's smallest value, 2 ^ -149. A quotient of 944 or more of these by at most 945 is rounded to no
-- zero. Assumes nothing.
use mathlib.Core.Path.{◌≡◌, refl, sym, subst, ◌∙◌}
use mathlib.Core.Bool.{Bool, true, false, ◌&&◌, true≢false}
use Prim.Native.Nat.{ℕ, zero, suc, ◌*◌, ◌%◌, ◌^◌, ◌≤◌, ◌<◌}
use native.Mathlib.Nat.{le_trans, le_of_eq, zero-mul, mul_assoc, mul_comm, mul_left_comm, mul-mul-mul_comm, mul-le-mul, mul-le-mul_right, mul-pos}
use native.Mathlib.Omega.{arith}
use borrow.Author.Tests.{ne_eqb}
use lib.Dec.{T, eqb, ltb, leb, lit≤, lit<, leb→le, ltb→lt}
use lib.IntN.{ℤ}
use lib.Pow.{pow_pos}
use lib.Ieee.{Float, nan, inf, fin, binary32, up, down, unlike, size, span, climb, units, odd, round, neg, mul, div, eq, le, fits, of_bits}
use lib.Ieee.Fits.{up_pos, down_pos, and_l, and_r}
use lib.Ieee.Exact.{HasValue, round_exact}
use lib.Ieee.Order.{round_mono}
use lib.Ieee.Positive.{positive, above, above_of_le, through}
use Rattle.softmath.specs.Single.{◌⊗◌, ◌⊘◌, zero32}
use Rattle.signs.proofs.Laws.{filled, no_zero, unlike_self}
use Rattle.signs.proofs.Products.{zero_equal, zero-digits}
use Rattle.signs.proofs.Rounded.{Signed, infinite, finite, Part, part, or_le, round-neg, round-signed}

-- u or more of the smallest values in size
pub data Units (u : ℕ) : Float → Type 0 where
  endless : {s : Bool} → Units u (inf s)
  counted : {s : Bool} {m : ℕ} {e : ℤ} → u * down e ≤ m * up e * 2 ^ 149 → Units u (fin s m e)

-- ---- rounding

over_units : (u : ℕ) (x y : Float) → Signed false y → HasValue x false u (2 ^ 149) → T (le x y) → Units u y
unfolding le
over_units u nan y g h t = absurd h
over_units u (inf w) y g h t = absurd h
over_units u (fin true l c) y g h t = absurd (true≢false h.0)
over_units u (fin false l c) nan g h t = elim g [ ]
over_units u (fin false l c) (inf true) g h t = elim g [ ]
over_units u (fin false l c) (fin true m e) g h t = elim g [ ]
over_units u (fin false l c) (inf false) infinite h t = endless
over_units u (fin false l c) (fin false m e) finite h t =
    counted (through u (l * up c) (m * up e) (2 ^ 149) (down c) (down e) (down_pos c) (le_of_eq (sym h.1)) (or_le _ _ t))

neg-units : {u : ℕ} {x : Float} → Units u x → Units u (neg x)
unfolding neg
neg-units endless = endless
neg-units (counted h) = counted h

held_944 : HasValue (round binary32 false 944 (2 ^ 149)) false 944 (2 ^ 149)
held_944 = round_exact binary32 false 944 (2 ^ 149) 944 0 (pow_pos 149) (lit< tt) (lit< tt) refl

round-units : (s : Bool) (a b : ℕ) → 0 < b → 944 * b ≤ a * 2 ^ 149 → Units 944 (round binary32 s a b)
round-units false a b p h =
    over_units 944 (round binary32 false 944 (2 ^ 149)) (round binary32 false a b) (round-signed false a b) held_944
    (round_mono binary32 944 (2 ^ 149) a b (pow_pos 149) p h)
round-units true a b p h =
    subst (Units 944) (sym (round-neg a b))
    (neg-units (over_units 944 (round binary32 false 944 (2 ^ 149)) (round binary32 false a b) (round-signed false a b) held_944
    (round_mono binary32 944 (2 ^ 149) a b (pow_pos 149) p h)))

-- no zero
no_size : (m : ℕ) (e : ℤ) → 0 < m → m * up e * 1 ≡ 0 * down e → ⊥
no_size m e p h = omega (arith, zero-mul (down e), mul-pos p (up_pos e))

above-nonzero : (x : Float) → T (above x) → (eq x zero32 ≡ false) × (eq (neg x) zero32 ≡ false)
unfolding eq neg of_bits
above-nonzero nan t = absurd t
above-nonzero (inf s) t = (refl, refl)
above-nonzero (fin true m e) t = absurd t
above-nonzero (fin false m e) t =
    let n = ne_eqb (m * up e * 1) (0 * down e) (no_size m e (ltb→lt 0 m t)) in
    (rw n, rw n)

-- 944 / 945 of the smallest value is rounded to it
nearly_one : T (positive (round binary32 false 944 (945 * 2 ^ 149)))
unfolding round size span climb units odd
nearly_one = tt

pub round-nonzero : (s : Bool) (a b : ℕ) → 0 < b → 944 * b ≤ a * (945 * 2 ^ 149) → eq (round binary32 s a b) zero32 ≡ false
round-nonzero s a b p h = go s
  where
    both : (eq (round binary32 false a b) zero32 ≡ false) × (eq (neg (round binary32 false a b)) zero32 ≡ false)
    both =
        above-nonzero (round binary32 false a b)
        (above_of_le (round binary32 false 944 (945 * 2 ^ 149)) (round binary32 false a b) nearly_one
        (round_mono binary32 944 (945 * 2 ^ 149) a b (mul-pos {m = 945} {n = 2 ^ 149} (lit< tt) (pow_pos 149)) p h))

    go : (s : Bool) → eq (round binary32 s a b) zero32 ≡ false
    go false = both.0
    go true = rw (round-neg a b) both.1

-- ---- products and quotients

product-size : (g a n e d u v p : ℕ) → g ≤ u * v → u * e ≤ a * p → v * d ≤ n → g * (e * d) ≤ a * n * p
product-size g a n e d u v p b h k =
    le_trans (mul-le-mul_right (e * d) b)
    (le_trans (le_of_eq (simp (mul_assoc, mul_comm, mul_left_comm))) (le_trans (mul-le-mul h k) (le_of_eq (simp (mul_assoc, mul_comm)))))

pub times-units : (u v w : ℕ) → 944 ≤ u * v → (s : Bool) (m : ℕ) (e : ℤ) → u * down e ≤ m * up e * 2 ^ 149 → {t : Bool} {y : Float} → Part t v w y
    → Units 944 (fin s m e ⊗ y)
unfolding mul
times-units u v w b s m e h {t} (part {m = n} {e = d} lo hi) =
    round-units (unlike s t) (m * up e * (n * up d)) (down e * down d) (mul-pos (down_pos e) (down_pos d))
    (product-size 944 (m * up e) (n * up d) (down e) (down d) u v (2 ^ 149) b h lo)

quotient_size : (u w p a n e d : ℕ) → u * e ≤ a * p → n ≤ w * d → u * (n * e) ≤ a * d * (w * p)
quotient_size u w p a n e d h k =
    le_trans (le_of_eq (simp (mul_assoc, mul_comm))) (le_trans (mul-le-mul h k) (le_of_eq (simp (mul_assoc, mul_comm, mul_left_comm))))

pub quotient_nonzero : (k : ℕ) → 0 < k → {i j : ℕ} {s t : Bool} {x y : Float} → Part s i j x → Units 944 x → Part t k 945 y → eq (x ⊘ y) zero32 ≡ false
unfolding div
quotient_nonzero k p {s = s} {t = t} (part {m = m} {e = e} lo hi) (counted h) (part {m = n} {e = d} lo' hi') =
    let some = filled k n (up d) (down d) p (down_pos d) lo' in
    rw (ne_eqb n 0 (no_zero n (up d) some))
    (round-nonzero (unlike s t) (m * up e * down d) (n * up d * down e) (mul-pos some (down_pos e))
    (quotient_size 944 945 (2 ^ 149) (m * up e) (n * up d) (down e) (down d) h hi'))

enough : (d a p : ℕ) → d ≤ p → 0 < a → 1 * d ≤ a * p
enough d a p h q = le_trans (mul-le-mul (lit≤ tt) h) (mul-le-mul_right p q)

-- a value that f32 holds and that is no zero is one of its smallest values, or more
pub fits-units : (s : Bool) (m : ℕ) (e : ℤ) → T (fits binary32 (fin s m e)) → eq (fin s m e) zero32 ≡ false → 1 * down e ≤ m * up e * 2 ^ 149
unfolding fits
fits-units s zero e f h = absurd (true≢false (sym (zero_equal (zero-digits s e)) ∙ h))
fits-units s (suc m) e f h =
    let a = eqb (suc m % 2) 1 in
    let b = ltb (suc m) (2 ^ 24) in
    let c = leb (down e) (2 ^ 149) in
    let d = ltb (suc m * up e) (2 ^ 128 * down e) in
    let l : down e ≤ 2 ^ 149 = leb→le (down e) (2 ^ 149) (and_r (a && b) c (and_l (a && b && c) d f)) in
    let p : 0 < suc m = omega arith in
    enough (down e) (suc m * up e) (2 ^ 149) l (mul-pos p (up_pos e))

double : (x y p : ℕ) → 2 * x ≤ y * p → 944 * x ≤ y * (945 * p)
double x y p h = rw (mul_left_comm y 945 p) (omega arith)

-- twice such a value is no zero
pub twice_nonzero : {t : Bool} {c : Float} → Part t 2 2 c → (x : Float) → T (fits binary32 x) → eq x zero32 ≡ false → {s : Bool} {j : ℕ} → Part s 0 j x
    → eq (c ⊗ x) zero32 ≡ false
unfolding mul
twice_nonzero {t} (part {m = n} {e = d} lo hi) nan f h x = elim x [ ]
twice_nonzero {t} (part {m = n} {e = d} lo hi) (inf s) f h x = elim x [ ]
twice_nonzero {t} (part {m = n} {e = d} lo hi) (fin s m e) f h (part lo' hi') =
    round-nonzero (unlike t s) (n * up d * (m * up e)) (down d * down e) (mul-pos (down_pos d) (down_pos e))
    (double (down d * down e) (n * up d * (m * up e)) (2 ^ 149)
    (rw (mul_comm (down d) (down e), mul_comm (n * up d) (m * up e))
    (product-size 2 (m * up e) (n * up d) (down e) (down d) 1 2 (2 ^ 149) (lit≤ tt) (fits-units s m e f h) lo)))

-- ---- at most k / c, and not negative

pub data AtMost (k c : ℕ) : Float → Type 0 where
  at_most : {m : ℕ} {e : ℤ} → m * up e * c ≤ k * down e → AtMost k c (fin false m e)

under-fraction : (k c : ℕ) (x y : Float) → Signed false x → HasValue y false k c → T (le x y) → AtMost k c x
unfolding le
under-fraction k c x nan g h t = absurd h
under-fraction k c x (inf w) g h t = absurd h
under-fraction k c x (fin true n d) g h t = absurd (true≢false h.0)
under-fraction k c nan (fin false n d) g h t = elim g [ ]
under-fraction k c (inf true) (fin false n d) g h t = elim g [ ]
under-fraction k c (fin true m e) (fin false n d) g h t = elim g [ ]
under-fraction k c (inf false) (fin false n d) infinite h t = absurd t
under-fraction k c (fin false m e) (fin false n d) finite h t =
    at_most (through (m * up e) (n * up d) k (down e) (down d) c (down_pos d) (or_le _ _ t) (le_of_eq h.1))

-- the square of what is at most k / c in size, where f32 holds the square of that
pub square_at_most : (k c : ℕ) → HasValue (round binary32 false (k * k) (c * c)) false (k * k) (c * c) → 0 < c * c → (s : Bool) (m : ℕ) (e : ℤ)
    → m * up e * c ≤ k * down e → AtMost (k * k) (c * c) (fin s m e ⊗ fin s m e)
unfolding mul
square_at_most k c held p s m e h =
    let a = m * up e in
    let b : a * a * (c * c) ≤ k * k * (down e * down e) = rw (← mul-mul-mul_comm a c a c, ← mul-mul-mul_comm k (down e) k (down e)) (mul-le-mul h h) in
    rw (unlike_self s)
    (under-fraction (k * k) (c * c) (round binary32 false (a * a) (down e * down e)) (round binary32 false (k * k) (c * c))
    (round-signed false (a * a) (down e * down e)) held
    (round_mono binary32 (a * a) (down e * down e) (k * k) (c * c) (mul-pos (down_pos e) (down_pos e)) p b))

-- 1 / 1024, and 289 / 256
pub held_tiny : HasValue (round binary32 false 1 1024) false 1 1024
held_tiny = round_exact binary32 false 1 1024 1 139 (lit< tt) (lit< tt) (lit< tt) refl

pub held_near : HasValue (round binary32 false 289 256) false 289 256
held_near = round_exact binary32 false 289 256 289 141 (lit< tt) (lit< tt) (lit< tt) refl
