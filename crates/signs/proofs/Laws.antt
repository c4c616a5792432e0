-- The sign of a product that is no NaN: negative where one operand's sign bit is set and the other's is not, also of a zero and of an infinity.
-- And bounds: of products, of sums and of quotients. Assumes nothing.
use mathlib.Core.Path.{◌≡◌, refl, sym, subst}
use mathlib.Core.Bool.{Bool, true, false, not, cond, true≢false}
use Prim.Native.Nat.{ℕ, ◌+◌, ◌-◌, ◌*◌, ◌^◌, ◌≤◌, ◌<◌}
use native.Mathlib.Nat.{le_trans, le_of_eq, one-mul, mul-one, mul-pos, zero-mul, mul-zero, mul_assoc, mul_comm, mul_left_comm, mul-le-mul, mul-le-mul_left}
use native.Mathlib.Nat.{mul-le-mul_right, mul-mul-mul_comm, add-mul}
use native.Mathlib.Omega.{arith}
use lib.Dec.{T, eqb, ltb, leb, leb→le, lit≤, lit<}
use lib.Pow.{pow-add, pow-lt}
use borrow.Author.Tests.{ne_eqb, lt-ltb, le-ltb, ltb-false}
use lib.IntN.{ℤ}
use lib.Ieee.{Float, nan, inf, fin, binary32, up, down, unlike, round, sum, add, mul, div, neg, lt, is_nan}
use lib.Ieee.Positive.{through}
use lib.Ieee.Exact.{round_exact}
use lib.Ieee.Back.{round_whole}
use lib.Ieee.Fits.{down_pos}
use Rattle.softmath.specs.Single.{◌⊕◌, ◌⊗◌, ◌⊘◌}
use Rattle.signs.proofs.Rounded.{Signed, infinite, finite, Held, Part, part, round-signed, round-part}

-- ---- signs

or_nan : (u b : Bool) → is_nan (cond b nan (inf u)) ≡ false → Signed u (cond b nan (inf u))
unfolding is_nan
or_nan u true h = absurd (true≢false h)
or_nan u false h = infinite

pub mul-signed : {s t : Bool} {x y : Float} → Signed s x → Signed t y → is_nan (x ⊗ y) ≡ false → Signed (unlike s t) (x ⊗ y)
unfolding mul
mul-signed infinite infinite h = infinite
mul-signed (infinite {s = s}) (finite {s = t} {m = n} {e = d}) h = or_nan (unlike s t) (eqb n 0) h
mul-signed (finite {s = s} {m = m} {e = e}) (infinite {s = t}) h = or_nan (unlike s t) (eqb m 0) h
mul-signed (finite {s = s} {m = m} {e = e}) (finite {s = t} {m = n} {e = d}) h = round-signed (unlike s t) (m * up e * (n * up d)) (down e * down d)

-- ---- bounds

-- whole numbers that f32 holds
pub held : (k : ℕ) → T (leb k 16777216) → Held k
held k t = round_whole binary32 false k (leb→le k 16777216 t)

pub part_number : {s : Bool} {j k : ℕ} {x : Float} → Part s j k x → is_nan x ≡ false
unfolding is_nan
part_number (part lo hi) = refl

-- a wider bound
pub part_in : {s : Bool} {i j : ℕ} {x : Float} (k l : ℕ) → k ≤ i → j ≤ l → Part s i j x → Part s k l x
part_in k l p q (part {m = m} {e = e} lo hi) = part (le_trans (mul-le-mul_right (down e) p) lo) (le_trans hi (mul-le-mul_right (down e) q))

pub mul_part : (i j k l : ℕ) → Held (i * k) → Held (j * l) → {s t : Bool} {x y : Float} → Part s i j x → Part t k l y
    → Part (unlike s t) (i * k) (j * l) (x ⊗ y)
unfolding mul
mul_part i j k l p q {s} {t} (part {m = m} {e = e} lo hi) (part {m = n} {e = d} lo' hi') =
    round-part (i * k) (j * l) (m * up e * (n * up d)) (down e * down d) p q (mul-pos (down_pos e) (down_pos d))
    (le_trans (le_of_eq (mul-mul-mul_comm i k (down e) (down d))) (mul-le-mul lo lo'))
    (le_trans (mul-le-mul hi hi') (le_of_eq (mul-mul-mul_comm j (down e) l (down d)))) (unlike s t)

-- the two parts of a sum, brought to the common divisor
module _ (j k e d a : ℕ) (lo : j * e ≤ a) (hi : a ≤ k * e) where
  left-low : j * (e * d) ≤ a * d
  left-low = le_trans (le_of_eq (sym (mul_assoc j e d))) (mul-le-mul_right d lo)

  left-high : a * d ≤ k * (e * d)
  left-high = le_trans (mul-le-mul_right d hi) (le_of_eq (mul_assoc k e d))

  right-low : j * (d * e) ≤ a * d
  right-low = rw (mul_comm d e) left-low

  right-high : a * d ≤ k * (d * e)
  right-high = rw (mul_comm d e) left-high

-- a sum of two with one sign
pub add_part : (i j k l : ℕ) → Held (i + k) → Held (j + l) → {x y : Float} → Part false i j x → Part false k l y → Part false (i + k) (j + l) (x ⊕ y)
unfolding add sum
add_part i j k l p q (part {m = m} {e = e} lo hi) (part {m = n} {e = d} lo' hi') =
    let a = left-low i j (down e) (down d) (m * up e) lo hi in
    let b = left-high i j (down e) (down d) (m * up e) lo hi in
    let a' = right-low k l (down d) (down e) (n * up d) lo' hi' in
    let b' = right-high k l (down d) (down e) (n * up d) lo' hi' in
    round-part (i + k) (j + l) (m * up e * down d + n * up d * down e) (down e * down d) p q (mul-pos (down_pos e) (down_pos d)) (rw add-mul (omega arith))
    (rw add-mul (omega arith)) false

-- a sum of two with different signs, the first the larger: v and w bound the difference
difference : (a b c i j k l v w : ℕ) → i * c ≤ a → a ≤ j * c → k * c ≤ b → b ≤ l * c → v + l ≤ i → j ≤ w + k → 0 < v → 0 < c
    → (b < a) × (v * c ≤ a - b) × (a - b ≤ w * c)
difference a b c i j k l v w h g h' g' f f' p q =
    let low : v * c + l * c ≤ i * c = rw add-mul at (mul-le-mul_right c f) in
    let high : j * c ≤ w * c + k * c = rw add-mul at (mul-le-mul_right c f') in
    let some : 0 < v * c = mul-pos p q in
    (omega arith, omega arith, omega arith)

different : (v w : ℕ) (s : Bool) (a b c : ℕ) → ltb a b ≡ false → ltb b a ≡ true → ((s : Bool) → Part s v w (round binary32 s (a - b) c))
    → Part s v w (sum binary32 s a (not s) b c)
unfolding sum
different v w true a b c right left done = rw (right, left) (done true)
different v w false a b c right left done = rw right (done false)

pub less_part : (i j k l v w : ℕ) → Held v → Held w → v + l ≤ i → j ≤ w + k → 0 < v → {x y : Float} → (s : Bool) → Part s i j x → Part (not s) k l y
    → Part s v w (x ⊕ y)
unfolding add sum
less_part i j k l v w p q f g z s (part {m = m} {e = e} lo hi) (part {m = n} {e = d} lo' hi') =
    let a = m * up e * down d in
    let b = n * up d * down e in
    let c = down e * down d in
    let c_pos : 0 < c = mul-pos (down_pos e) (down_pos d) in
    let r = difference a b c i j k l v w (left-low i j (down e) (down d) (m * up e) lo hi) (left-high i j (down e) (down d) (m * up e) lo hi)
    (right-low k l (down d) (down e) (n * up d) lo' hi') (right-high k l (down d) (down e) (n * up d) lo' hi') f g z c_pos in
    let right : ltb a b ≡ false = le-ltb a b (let y = r.0 in omega arith) in
    let left : ltb b a ≡ true = lt-ltb b a r.0 in
    let done = round-part v w (a - b) c p q c_pos r.1 r.2 in
    different v w s a b c right left done

-- ---- quotients

quotient : (a j k l n e d : ℕ) → j ≤ l * k → a ≤ j * e → k * d ≤ n → a * d ≤ l * (n * e)
quotient a j k l n e d b h g =
    le_trans (mul-le-mul_right d (le_trans h (mul-le-mul_right e b)))
    (le_trans (le_of_eq (simp (mul_assoc, mul_comm, mul_left_comm))) (mul-le-mul_left l (mul-le-mul_right e g)))

pub filled : (k n u d : ℕ) → 0 < k → 0 < d → k * d ≤ n * u → 0 < n * u
filled k n u d p q h = omega (arith, mul-pos p q)

pub no_zero : (n u : ℕ) → 0 < n * u → n ≡ 0 → ⊥
no_zero n u p z =
    let h : 0 < 0 * u = rw z at p in
    omega (arith, zero-mul u)

-- what is at most j in size over what is k or more
pub div_part : (j k l w : ℕ) → Held w → 0 < k → j ≤ w * k → {i : ℕ} {s t : Bool} {x y : Float} → Part s i j x → Part t k l y → Part (unlike s t) 0 w (x ⊘ y)
unfolding div
div_part j k l w q p b {i} {s} {t} (part {m = m} {e = e} lo hi) (part {m = n} {e = d} lo' hi') =
    let some = filled k n (up d) (down d) p (down_pos d) lo' in
    rw (ne_eqb n 0 (no_zero n (up d) some))
    (round-part 0 w (m * up e * down d) (n * up d * down e) (held 0 tt) q (mul-pos some (down_pos e)) (omega (arith, zero-mul (n * up d * down e)))
    (quotient (m * up e) j k w (n * up d) (down e) (down d) b hi lo') (unlike s t))

-- ---- signs again

pub false-unlike : (s : Bool) → unlike false s ≡ s
false-unlike true = refl
false-unlike false = refl

pub true-unlike : (s : Bool) → unlike true s ≡ not s
true-unlike true = refl
true-unlike false = refl

pub unlike_self : (s : Bool) → unlike s s ≡ false
unlike_self true = refl
unlike_self false = refl

-- the sign of a part, rewritten
pub sign_as : {s t : Bool} {j k : ℕ} {x : Float} → s ≡ t → Part s j k x → Part t j k x
sign_as {j = j} {k = k} {x = x} h p = subst (λ (u : Bool). Part u j k x) h p

-- finite, and at most k in size; a zero of either sign
pub data Bounded (k : ℕ) (x : Float) : Type 0 where
  bounded : {s : Bool} → Part s 0 k x → Bounded k x

abbrev pub Zero : Float → Type 0
Zero x = Bounded 0 x

pub bounded_in : {j : ℕ} {x : Float} (k : ℕ) → j ≤ k → Bounded j x → Bounded k x
bounded_in k h (bounded p) = bounded (part_in 0 k (lit≤ tt) h p)

pub bounded_number : {k : ℕ} {x : Float} → Bounded k x → is_nan x ≡ false
bounded_number (bounded p) = part_number p

pub mul_bounded : (j k : ℕ) → Held (j * k) → {x y : Float} → Bounded j x → Bounded k y → Bounded (j * k) (x ⊗ y)
mul_bounded j k h (bounded p) (bounded q) = bounded (mul_part 0 j 0 k (held 0 tt) h p q)

pub zero-times : (k : ℕ) {x y : Float} → Zero x → Bounded k y → Zero (x ⊗ y)
zero-times k {x} {y} h g = subst (λ (z : ℕ). Bounded z (x ⊗ y)) (zero-mul k) (mul_bounded 0 k (rw (zero-mul k) (held 0 tt)) h g)

pub times_zero : (k : ℕ) {x y : Float} → Bounded k x → Zero y → Zero (x ⊗ y)
times_zero k {x} {y} h g = subst (λ (z : ℕ). Bounded z (x ⊗ y)) (mul-zero k) (mul_bounded k 0 (rw (mul-zero k) (held 0 tt)) h g)

-- the powers of two that f32 holds
pub held_power : (k : ℕ) → k ≤ 127 → Held (2 ^ k)
held_power k h =
    round_exact binary32 false (2 ^ k) 1 1 (k + 149) (lit< tt) (lit< tt) (rw (one-mul (2 ^ (k + 149))) (pow-lt {i = k + 149} {j = 277} (omega arith)))
    (rw (one-mul (2 ^ (k + 149)), mul-one (2 ^ (k + 149))) (sym (pow-add 2 k 149)))

-- ---- comparisons with a value c that is not negative, and with its negative

pub below_edge : {i k : ℕ} {c : Float} {s : Bool} {x : Float} → Part false i k c → Signed s x → lt x (neg c) ≡ true → s ≡ true
unfolding lt neg
below_edge (part lo hi) infinite h = h
below_edge (part lo hi) (finite {s = true}) h = refl
below_edge (part lo hi) (finite {s = false}) h = h

pub above_edge : {i k : ℕ} {c : Float} {s : Bool} {x : Float} → Part false i k c → Signed s x → lt c x ≡ true → s ≡ false
unfolding lt
above_edge (part lo hi) (infinite {s = true}) h = sym h
above_edge (part lo hi) (infinite {s = false}) h = refl
above_edge (part lo hi) (finite {s = true}) h = sym h
above_edge (part lo hi) (finite {s = false}) h = refl

no_size : (m : ℕ) (e : ℤ) → m * up e ≤ 0 * down e → m * up e ≡ 0
no_size m e h = omega (arith, zero-mul (down e))

edged : (s : Bool) (k m n : ℕ) (e d : ℤ) → n * up d ≤ k * down d → m * up e * down d ≤ n * up d * down e → Part s 0 k (fin s m e)
edged s k m n e d hi h =
    let lo' : 0 * down e ≤ m * up e = omega (arith, zero-mul (down e)) in
    let hi' : m * up e * 1 ≤ k * down e = through (m * up e) (n * up d) k (down e) (down d) 1 (down_pos d) h (omega arith) in
    let hi'' : m * up e ≤ k * down e = omega arith in
    part lo' hi''

pub between_edges : {i k : ℕ} {c : Float} {s : Bool} {x : Float} → Part false i k c → Signed s x → lt x (neg c) ≡ false → lt c x ≡ false → Part s 0 k x
unfolding lt neg
between_edges (part lo hi) (infinite {s = true}) h g = absurd (true≢false h)
between_edges (part lo hi) (infinite {s = false}) h g = absurd (true≢false g)
between_edges {k = k} (part {m = n} {e = d} lo hi) (finite {s = true} {m = m} {e = e}) h g =
    edged true k m n e d hi (ltb-false (n * up d * down e) (m * up e * down d) h)
between_edges {k = k} (part {m = n} {e = d} lo hi) (finite {s = false} {m = m} {e = e}) h g =
    edged false k m n e d hi (ltb-false (n * up d * down e) (m * up e * down d) g)

pub zero-not_below : {i k : ℕ} {c : Float} {s : Bool} {x : Float} → Part false i k c → Part s 0 0 x → lt x (neg c) ≡ false
unfolding lt neg
zero-not_below {s = true} (part {m = n} {e = d} lo' hi') (part {m = m} {e = e} lo hi) =
    le-ltb (n * up d * down e) (m * up e * down d) (rw (no_size m e hi, zero-mul (down d)) (omega arith))
zero-not_below {s = false} (part lo' hi') (part lo hi) = refl

pub zero-not-above : {i k : ℕ} {c : Float} {s : Bool} {x : Float} → Part false i k c → Part s 0 0 x → lt c x ≡ false
unfolding lt
zero-not-above {s = true} (part lo' hi') (part lo hi) = refl
zero-not-above {s = false} (part {m = n} {e = d} lo' hi') (part {m = m} {e = e} lo hi) =
    le-ltb (n * up d * down e) (m * up e * down d) (rw (no_size m e hi, zero-mul (down d)) (omega arith))
