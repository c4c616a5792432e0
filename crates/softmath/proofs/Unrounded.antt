-- A value that a format holds is what its own size is rounded to, since a value that fits is written in one way; so times 1.0 it is itself. Assumes nothing.
use mathlib.Core.Path.{◌≡◌, refl, sym, ap, subst, ◌∙◌}
use mathlib.Core.Bool.{Bool, true, false, ◌&&◌}
use Prim.Native.Nat.{ℕ, zero, suc, ◌+◌, ◌-◌, ◌*◌, ◌%◌, ◌^◌, ◌≤◌, ◌<◌}
use native.Mathlib.Nat.{add_comm, zero-mul, mul-one, mul_assoc, mul_left_comm, mul-pos, pow-suc, pow-succ', zero-lt-suc, lt_of_not-le, eq_of_mul-eq-mul_right}
use native.Mathlib.Omega.{arith}
use lib.Dec.{T, eqb, leb, ltb, eqb→eq, leb→le, ltb→lt}
use lib.IntN.{ℤ, pos, negsuc}
use lib.Pow.{pow-add, pow_pos, pow-lt, shl_lt}
use lib.Ieee.{Float, nan, inf, fin, Format, binary32, prec, emax, low, up, down, round, mul, fits, of_bits}
use lib.Ieee.Bits.{is_true}
use lib.Ieee.Digits.{back}
use lib.Ieee.Exact.{HasValue, round_exact}
use lib.Ieee.Fits.{and_l, and_r, up_pos, down_pos, round-fits}
use Rattle.softmath.specs.Single.{◌⊗◌, one32}
use Rattle.softmath.proofs.Floats.{unlike-false, zero_exponent}

-- ---- an odd number times a power of two is so in one way

even_odd : (m t : ℕ) → m % 2 ≡ 1 → m ≡ 2 * t → ⊥
even_odd m t o h = omega arith

odd_pow : (m n a b : ℕ) → m % 2 ≡ 1 → n % 2 ≡ 1 → m * 2 ^ a ≡ n * 2 ^ b → (m ≡ n) × (a ≡ b)
odd_pow m n zero zero o p h = (sym (mul-one m) ∙ h ∙ mul-one n, refl)
odd_pow m n zero (suc b) o p h = absurd (even_odd m (n * 2 ^ b) o (sym (mul-one m) ∙ h ∙ ap (λ (x : ℕ). n * x) (pow-succ' 2 b) ∙ mul_left_comm n 2 (2 ^ b)))
odd_pow m n (suc a) zero o p h = absurd (even_odd n (m * 2 ^ a) p (sym (mul-one n) ∙ sym h ∙ ap (λ (x : ℕ). m * x) (pow-succ' 2 a) ∙ mul_left_comm m 2 (2 ^ a)))
odd_pow m n (suc a) (suc b) o p h =
    let r = odd_pow m n a b o p (eq_of_mul-eq-mul_right 2 (zero-lt-suc 1) (m * 2 ^ a) (n * 2 ^ b)
    (mul_assoc m (2 ^ a) 2 ∙ ap (λ (x : ℕ). m * x) (sym (pow-suc 2 a)) ∙ h ∙ ap (λ (x : ℕ). n * x) (pow-suc 2 b) ∙ sym (mul_assoc n (2 ^ b) 2))) in
    (r.0, ap suc r.1)

-- one size, one digits and exponent
same_digits : (m n : ℕ) (e g : ℤ) → m % 2 ≡ 1 → n % 2 ≡ 1 → n * up g * down e ≡ m * up e * down g → (n ≡ m) × (g ≡ e)
same_digits m n (pos a) (pos b) o p h =
    let r = odd_pow n m b a p o (sym (mul-one _) ∙ h ∙ mul-one _) in
    (r.0, ap pos r.1)
same_digits m n (pos a) (negsuc b) o p h =
    let r = odd_pow n m 0 (a + suc b) p o (sym (mul-one (n * 1)) ∙ h ∙ mul_assoc m (2 ^ a) (2 ^ suc b) ∙ ap (λ (x : ℕ). m * x) (sym (pow-add 2 a (suc b)))) in
    absurd (omega (arith, r.1))
same_digits m n (negsuc a) (pos b) o p h =
    let r = odd_pow n m (b + suc a) 0 p o (ap (λ (x : ℕ). n * x) (pow-add 2 b (suc a)) ∙ sym (mul_assoc n (2 ^ b) (2 ^ suc a)) ∙ h ∙ mul-one (m * 1)) in
    absurd (omega (arith, r.1))
same_digits m n (negsuc a) (negsuc b) o p h =
    let r = odd_pow n m (suc a) (suc b) p o (ap (λ (x : ℕ). x * 2 ^ suc a) (sym (mul-one n)) ∙ h ∙ ap (λ (x : ℕ). x * 2 ^ suc b) (mul-one m)) in
    (r.0, ap negsuc (sym (omega (arith, r.1))))

-- ---- what fits, in parts

four : (a b c d : Bool) → T (a && b && c && d) → T a × T b × T c × T d
four a b c d t = (
  and_l a b (and_l (a && b) c (and_l (a && b && c) d t)),
  and_r a b (and_l (a && b) c (and_l (a && b && c) d t)),
  and_r (a && b) c (and_l (a && b && c) d t),
  and_r (a && b && c) d t,
)

module _ (f : Format) (s : Bool) (m : ℕ) (e : ℤ) (h : T (fits f (fin s (suc m) e))) where
  parts : T (eqb (suc m % 2) 1) × T (ltb (suc m) (2 ^ prec f)) × T (leb (down e) (2 ^ low f)) × T (ltb (suc m * up e) (2 ^ suc (emax f) * down e))
  unfolding fits
  parts = four (eqb (suc m % 2) 1) (ltb (suc m) (2 ^ prec f)) (leb (down e) (2 ^ low f)) (ltb (suc m * up e) (2 ^ suc (emax f) * down e)) h

  is_odd : suc m % 2 ≡ 1
  is_odd = eqb→eq (suc m % 2) 1 parts.0

  is-short : suc m < 2 ^ prec f
  is-short = ltb→lt (suc m) (2 ^ prec f) parts.1

  is-fine : down e ≤ 2 ^ low f
  is-fine = leb→le (down e) (2 ^ low f) parts.2

  is-small : suc m * up e < 2 ^ suc (emax f) * down e
  is-small = ltb→lt (suc m * up e) (2 ^ suc (emax f) * down e) parts.3

-- ---- nothing is rounded

-- the exponent's fraction is not finer than the format's smallest value
fine_exponent : (f : Format) (k : ℕ) → 2 ^ suc k ≤ 2 ^ low f → suc k ≤ low f
fine_exponent f k h = lt_of_not-le (λ g. omega (arith, h, pow-lt {i = low f} {j = suc k} (omega (arith, g))))

value_kept : (f : Format) (s : Bool) (m : ℕ) (e : ℤ) → T (fits f (fin s (suc m) e)) → HasValue (round f s (suc m * up e) (down e)) s (suc m * up e) (down e)
value_kept f s m (pos k) h =
    let q = suc m in
    let l = low f in
    let whole : q * 2 ^ (k + l) ≡ q * 2 ^ k * 2 ^ l = ap (λ (x : ℕ). q * x) (pow-add 2 k l) ∙ sym (mul_assoc q (2 ^ k) (2 ^ l)) in
    let small : q * 2 ^ k < 2 ^ suc (emax f) = subst (λ (x : ℕ). q * 2 ^ k < x) (mul-one (2 ^ suc (emax f))) (is-small f s m (pos k) h) in
    let below : q * 2 ^ (k + l) < 2 ^ (l + suc (emax f)) =
    subst (λ (x : ℕ). x < 2 ^ (l + suc (emax f))) (sym whole)
    (subst (λ (x : ℕ). q * 2 ^ k * 2 ^ l < 2 ^ x) (add_comm (suc (emax f)) l) (shl_lt (suc (emax f)) l small)) in
    round_exact f s (q * 2 ^ k) 1 q (k + l) (zero-lt-suc 0) (is-short f s m (pos k) h) below (sym whole ∙ sym (mul-one (q * 2 ^ (k + l))))
value_kept f s m (negsuc k) h =
    let q = suc m in
    let l = low f in
    let long : suc k ≤ l = fine_exponent f k (is-fine f s m (negsuc k) h) in
    let j = l - suc k in
    let whole : q * 1 * 2 ^ l ≡ q * 2 ^ j * 2 ^ suc k =
    ap (λ (x : ℕ). x * 2 ^ l) (mul-one q) ∙ ap (λ (x : ℕ). q * 2 ^ x) (sym (back l (suc k) long)) ∙ ap (λ (x : ℕ). q * x) (pow-add 2 j (suc k))
    ∙ sym (mul_assoc q (2 ^ j) (2 ^ suc k)) in
    let small : q < 2 ^ (suc (emax f) + suc k) =
    subst (λ (x : ℕ). q < x) (sym (pow-add 2 (suc (emax f)) (suc k)))
    (subst (λ (x : ℕ). x < 2 ^ suc (emax f) * 2 ^ suc k) (mul-one q) (is-small f s m (negsuc k) h)) in
    let sum : suc (emax f) + suc k + j ≡ l + suc (emax f) = omega arith in
    let below : q * 2 ^ j < 2 ^ (l + suc (emax f)) = subst (λ (x : ℕ). q * 2 ^ j < 2 ^ x) sum (shl_lt (suc (emax f) + suc k) j small) in
    round_exact f s (q * 1) (2 ^ suc k) q j (pow_pos (suc k)) (is-short f s m (negsuc k) h) below whole

-- a value that fits, of that size and sign, is the one
the_value : (f : Format) (x : Float) (s : Bool) (m : ℕ) (e : ℤ) → T (fits f x) → T (fits f (fin s (suc m) e)) → HasValue x s (suc m * up e) (down e)
    → x ≡ fin s (suc m) e
the_value f nan s m e t h v = absurd v
the_value f (inf u) s m e t h v = absurd v
the_value f (fin u zero g) s m e t h v =
    absurd (omega (arith, simp zero-mul at v.1, mul-pos (mul-pos (zero-lt-suc m) (up_pos e)) (down_pos g)))
the_value f (fin u (suc n) g) s m e t h v =
    let r = same_digits (suc m) (suc n) e g (is_odd f s m e h) (is_odd f u n g t) v.1 in
    rw (v.0, r.0, r.1)

pub round_itself : (f : Format) (s : Bool) (m : ℕ) (e : ℤ) → T (fits f (fin s (suc m) e)) → round f s (suc m * up e) (down e) ≡ fin s (suc m) e
round_itself f s m e h = the_value f _ s m e (round-fits f s (suc m * up e) (down e)) h (value_kept f s m e h)

-- ---- times 1.0

zero-times_one : (s : Bool) → fin s zero (pos 0) ⊗ one32 ≡ fin s zero (pos 0)
unfolding mul of_bits
zero-times_one true = refl
zero-times_one false = refl

pub times_one : (x : Float) → T (fits binary32 x) → x ⊗ one32 ≡ x
unfolding mul of_bits
times_one nan h = refl
times_one (inf true) h = refl
times_one (inf false) h = refl
times_one (fin s zero e) h = rw (zero_exponent s e (is_true _ h)) (zero-times_one s)
times_one (fin s (suc m) e) h = rw (unlike-false s, mul-one (suc m * up e), mul-one (down e)) (round_itself binary32 s m e h)
