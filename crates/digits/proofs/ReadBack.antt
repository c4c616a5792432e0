-- The digits of a number, read back, give the number, and the first of several is not 0. By induction over the weights: below a weight that the number
-- reaches, every digit is written.
use mathlib.Core.Path.{◌≡◌, ◌∙◌}
use mathlib.Core.List.{[], ◌∷◌}
use Prim.Native.Nat.{ℕ, zero, suc, ◌+◌, ◌-◌, ◌*◌, ◌/◌, ◌%◌, ◌^◌, ◌≤◌, ◌<◌}
use native.Mathlib.Nat.{pow-suc, pow-succ', mod-eq_of_lt, mul_assoc, mul_comm, add-mul, one-le-pow, le-div_iff_mul-le, div-lt_iff_lt-mul}
use native.Mathlib.Decide.{dec_lt}
use native.Mathlib.Omega.{arith}
use borrow.Author.Tests.{lt-ltb, le-ltb}
use lib.Arith.{mod-mul}
use lib.Dec.{lit<, lit≤}
use lib.ListN.{get_or}
use Rattle.text.specs.Text.{leading, decimal}
use Rattle.digits.specs.Digits.{digits_from, digits, read_after, read_back}
use Rattle.digits.proofs.Digits.{short_same}

weight_pos : (k : ℕ) → 0 < 10 ^ k
weight_pos k = one-le-pow k 10 (lit≤ tt)

leading-none : (p n : ℕ) → n < p → leading p n ≡ []
unfolding leading
leading-none p n h = rw (lt-ltb n p h)

leading_one : (p n : ℕ) → p ≤ n → leading p n ≡ (48 + n / p % 10) ∷ []
unfolding leading
leading_one p n h = rw (le-ltb n p h)

-- what a number with one digit more says
more : (first d b : ℕ) → (10 * first + (48 + d - 48)) * b ≡ first * (10 * b) + d * b
more first d b =
    let same : 48 + d - 48 ≡ d = omega arith in
    rw (same, add-mul (10 * first) d b, mul_comm 10 first, mul_assoc first 10 b)

-- the digits of weight 10 ^ k and less, all of them: they say the number's remainder
all_read : (k n first : ℕ) → 10 ^ k ≤ n → read_after first (digits_from k n) ≡ first * 10 ^ suc k + n % 10 ^ suc k
unfolding digits_from read_after
all_read zero n first h = omega arith
all_read (suc k) n first h =
    let b = 10 ^ suc k in
    let low : 10 ^ k ≤ n = omega (arith, pow-suc 10 k) in
    let rest = all_read k n (10 * first + (48 + n / b % 10 - 48)) low in
    let whole : n % (10 * b) ≡ n / b % 10 * b + n % b = mod-mul n {m = 10} {c = b} (lit< tt) (weight_pos (suc k)) in
    rw (leading_one b n h, pow-succ' 10 (suc k)) (rest ∙ omega (arith, whole, more first (n / b % 10) b))

pub read_back_lem : (k n : ℕ) → n < 10 ^ suc k → read_back (digits_from k n) ≡ n
unfolding digits_from read_after
read_back_lem zero n h = omega arith
read_back_lem (suc k) n h = by (dec_lt n (10 ^ suc k)) (read_back_lem k n)
  where
    by : Dec (n < 10 ^ suc k) → (n < 10 ^ suc k → read_back (digits_from k n) ≡ n) → read_back (digits_from (suc k) n) ≡ n
    by (yes low) rest = rw (leading-none (10 ^ suc k) n low) (rest low)
    by (no high) rest = all_read (suc k) n 0 (omega arith) ∙ rw (mod-eq_of_lt h) (omega arith)

-- no zero in front
pub first-not-zero : (k n : ℕ) → n < 10 ^ suc k → 0 < n → 48 < get_or (digits_from k n) 0 0
unfolding digits_from
first-not-zero zero n h some = omega arith
first-not-zero (suc k) n h some = by (dec_lt n (10 ^ suc k)) (λ low. first-not-zero k n low some)
  where
    by : Dec (n < 10 ^ suc k) → (n < 10 ^ suc k → 48 < get_or (digits_from k n) 0 0) → 48 < get_or (digits_from (suc k) n) 0 0
    by (yes low) rest = rw (leading-none (10 ^ suc k) n low) (rest low)
    by (no high) rest =
        let p = 10 ^ suc k in
        let least : 1 ≤ n / p = (le-div_iff_mul-le (weight_pos (suc k))).1 (omega arith) in
        let most : n / p < 10 = (div-lt_iff_lt-mul (weight_pos (suc k))).1 (omega (arith, pow-succ' 10 (suc k))) in
        rw (leading_one p n (omega arith)) (omega arith)

-- of every u64
pub digits_read : (n : ℕ) → n < 2 ^ 64 → read_back (digits n) ≡ n
unfolding digits
digits_read n h = read_back_lem 19 n (omega arith)

pub digits-first : (n : ℕ) → n < 2 ^ 64 → 0 < n → 48 < get_or (digits n) 0 0
unfolding digits
digits-first n h some = first-not-zero 19 n (omega arith) some

-- and of a number of at most five digits, as crate `text` writes it
pub decimal_read : (n : ℕ) → n < 100000 → read_back (decimal n) ≡ n
decimal_read n h = rw (short_same n) (read_back_lem 4 n h)
