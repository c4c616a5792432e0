-- The greatest common divisor and the lowest terms: Euclid's division keeps the common divisors, so what is left divides both and is divided by each of them.
use mathlib.Core.Path.{◌≡◌, refl, sym, ap, ◌∙◌}
use Prim.Native.Nat.{ℕ, zero, suc, ◌*◌, ◌/◌, ◌%◌, ◌≤◌, ◌<◌, ◌∣◌}
use native.Mathlib.Nat.{mod-lt, mul_comm, mul_left_comm, one-mul, div-mul_cancel, div_self, div-eq_of_lt, mod-eq_of_lt, dvd_refl, dvd-zero, dvd-mod_iff}
use native.Mathlib.Nat.{pos_of_dvd_of_pos, mul-dvd-mul_right, dvd_of_mul-dvd-mul_right, eq-one_of_dvd-one}
use native.Mathlib.Omega.{arith}
use Rattle.figures.specs.Fraction.{gcd_within, gcd, lowest}

-- ---- enough divisions are enough
enough : (n m a b : ℕ) → b ≤ n → b ≤ m → gcd_within n a b ≡ gcd_within m a b
unfolding gcd_within
enough zero zero a zero h k = refl
enough zero (suc m) a zero h k = refl
enough (suc n) zero a zero h k = refl
enough (suc n) (suc m) a zero h k = refl
enough zero m a (suc b) h k = absurd (omega arith)
enough (suc n) zero a (suc b) h k = absurd (omega arith)
enough (suc n) (suc m) a (suc b) h k =
    let less : a % suc b < suc b = mod-lt a (omega arith) in
    enough n m (suc b) (a % suc b) (omega arith) (omega arith)

pub gcd-zero : (a : ℕ) → gcd a 0 ≡ a
unfolding gcd gcd_within
gcd-zero a = refl

pub gcd-step : (a b : ℕ) → 0 < b → gcd a b ≡ gcd b (a % b)
unfolding gcd gcd_within
gcd-step a zero h = absurd (omega arith)
gcd-step a (suc b) h =
    let less : a % suc b < suc b = mod-lt a (omega arith) in
    enough b (a % suc b) (suc b) (a % suc b) (omega arith) (omega arith)

-- ---- it divides both, and each common divisor divides it
within_divides : (n a b : ℕ) → b ≤ n → (gcd_within n a b ∣ a) × (gcd_within n a b ∣ b)
unfolding gcd_within
within_divides zero a zero h = (dvd_refl a, dvd-zero a)
within_divides (suc n) a zero h = (dvd_refl a, dvd-zero a)
within_divides zero a (suc b) h = absurd (omega arith)
within_divides (suc n) a (suc b) h =
    let less : a % suc b < suc b = mod-lt a (omega arith) in
    let both = within_divides n (suc b) (a % suc b) (omega arith) in
    ((dvd-mod_iff _ both.0).0 both.1, both.0)

pub gcd_divides : (a b : ℕ) → (gcd a b ∣ a) × (gcd a b ∣ b)
unfolding gcd
gcd_divides a b = within_divides b a b (omega arith)

within_greatest : (k n a b : ℕ) → k ∣ a → k ∣ b → k ∣ gcd_within n a b
unfolding gcd_within
within_greatest k zero a b p q = p
within_greatest k (suc n) a zero p q = p
within_greatest k (suc n) a (suc b) p q = within_greatest k n (suc b) (a % suc b) q ((dvd-mod_iff k q).1 p)

pub gcd_greatest : (k a b : ℕ) → k ∣ a → k ∣ b → k ∣ gcd a b
unfolding gcd
gcd_greatest k a b = within_greatest k b a b

pub gcd-pos : (a b : ℕ) → 0 < b → 0 < gcd a b
gcd-pos a b h = pos_of_dvd_of_pos (gcd_divides a b).1 h

-- ---- the lowest terms of n over d, where d is not 0
module _ (n d : ℕ) (some : 0 < d) where
  -- the same number
  pub same-value : (lowest n d).over * d ≡ n * (lowest n d).under
  unfolding lowest
  same-value =
      let g = gcd n d in
      let en = div-mul_cancel g (gcd_divides n d).0 in
      let ed = div-mul_cancel g (gcd_divides n d).1 in
      ap (λ (x : ℕ). n / g * x) (sym ed) ∙ mul_left_comm (n / g) (d / g) g ∙ ap (λ (x : ℕ). d / g * x) en ∙ mul_comm (d / g) n

  -- nothing but 1 divides both
  pub no-common : (k : ℕ) → k ∣ (lowest n d).over → k ∣ (lowest n d).under → k ≡ 1
  unfolding lowest
  no-common k p q =
      let g = gcd n d in
      let en = div-mul_cancel g (gcd_divides n d).0 in
      let ed = div-mul_cancel g (gcd_divides n d).1 in
      let pn : k * g ∣ n = rw en at (mul-dvd-mul_right k p g) in
      let pd : k * g ∣ d = rw ed at (mul-dvd-mul_right k q g) in
      let all : k * g ∣ 1 * g = rw (one-mul g) (gcd_greatest (k * g) n d pn pd) in
      eq-one_of_dvd-one (dvd_of_mul-dvd-mul_right k (gcd-pos n d some) all)

-- "a fraction of zero is 0/1"
pub zero_over : (d : ℕ) → 0 < d → lowest 0 d ≡ record { over = 0; under = 1 }
unfolding lowest
zero_over d some =
    let is : gcd 0 d ≡ d = gcd-step 0 d some ∙ ap (gcd d) (mod-eq_of_lt some) ∙ gcd-zero d in
    rw (is, div_self some, div-eq_of_lt some)
