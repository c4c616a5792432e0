-- A float that is n eighths, with its sign: `HasValue x s n 8`. Which floats are, and what the code's operations make of them: by cross-multiplication,
-- and by the library's `round_exact`, since a byte over eight needs no more digits than an f32 has. Assumes nothing.
use Rattle.std.proofs.Common.{◌≡◌, ℕ, zero, suc, ◌+◌, ◌*◌, ◌/◌, ◌%◌, ◌^◌, ◌<◌, ◌≤◌, Bool, true, false, not, ◌&&◌, ◌||◌, T, eqb, leb, ℤ, pos, sym, refl, ap}
use Rattle.std.proofs.Common.{◌∙◌, subst, true≢false, lt_of_lt_of_le, add-zero, zero-lt-suc, mul_assoc, mul-lt-mul_of_pos_right, mul-pos, div-add-mod'}
use Rattle.std.proofs.Common.{zero-mul, mul-one, mul_right_comm, mul-div_cancel, arith, lit≤, le→leb, eqb→eq, lt→ltb, leb→le, pow_mono, shl_lt, ltb-false}
use Rattle.std.proofs.Common.{ltb-true, le-ltb}
use native.Mathlib.Nat.{mul-mod_left, eq_of_mul-eq-mul_right}
use mathlib.Core.Bool.{beq}
use lib.Dec.{eqb-suc-zero, not_T}
use lib.Ieee.{Float, nan, inf, fin, binary32, up, down, neg, mul, eq, lt, round, of_int, of_bits, in_float, in_signed, to_unsigned, to_signed, div}
use lib.Ieee.Fits.{and_l, and_r, and_i, eq→eqb, up_pos, down_pos}
use lib.Ieee.Exact.{HasValue, round_exact}
use lib.Ieee.Back.{round_whole, unsigned_back, positive_back, negative_back}
use lib.Ieee.Scale.{round_same}
use Rattle.softmath.proofs.Floats.{unlike-false}
use Rattle.soft_bytes.specs.Values.{eighth32, eight32, times_eighth, whole_eighths, minus_zero, passes, signed, eight_times}
use Rattle.softmath.specs.Single.{zero32}

pub same_test : (a b : Bool) → (T a → T b) → (T b → T a) → a ≡ b
same_test true true p q = refl
same_test true false p q = absurd (p tt)
same_test false true p q = absurd (q tt)
same_test false false p q = refl

-- ---- the definitions and `HasValue`

-- the eighths of a float that has a whole number of them, up to 127
pub record Eighths (x : Float) (s : Bool) (n : ℕ) : Type 0 where
  pub value : HasValue x s n 8
  pub small : n ≤ 127

-- how many eighths, where they are whole
abbrev pub count : Float → ℕ
count nan = 0
count (inf s) = 0
count (fin s m e) = m * up e * 8 / down e

split : (a d : ℕ) → a % d ≡ 0 → a ≡ a / d * d
split a d z = sym (div-add-mod' a d) ∙ ap (λ (r : ℕ). a / d * d + r) z ∙ add-zero (a / d * d)

pub whole-eighths : (s : Bool) (m : ℕ) (e : ℤ) → T (whole_eighths (fin s m e)) → Eighths (fin s m e) s (count (fin s m e))
unfolding whole_eighths
whole-eighths s m e t =
    let a = m * up e * 8 in
    record {
      value = (refl, split a (down e) (eqb→eq (a % down e) 0 (and_l (eqb (a % down e) 0) (leb (a / down e) 127) t)));
      small = leb→le (a / down e) 127 (and_r (eqb (a % down e) 0) (leb (a / down e) 127) t);
    }

-- the other way, with the number
pub eighths_whole : (x : Float) (s : Bool) (n : ℕ) → Eighths x s n → T (whole_eighths x) × (eight_times x ≡ signed s n)
unfolding whole_eighths eight_times
eighths_whole nan s n h = absurd h.value
eighths_whole (inf t) s n h = absurd h.value
eighths_whole (fin t m e) s n h =
    let a = m * up e * 8 in
    let same : a ≡ n * down e = h.value.1 in
    let quotient : a / down e ≡ n = ap (λ (k : ℕ). k / down e) same ∙ mul-div_cancel n (down_pos e) in
    let left : a % down e ≡ 0 = ap (λ (k : ℕ). k % down e) same ∙ mul-mod_left n (down e) in (
      and_i (eqb (a % down e) 0) (leb (a / down e) 127) (eq→eqb left) (le→leb (a / down e) 127 (subst (λ (k : ℕ). k ≤ 127) (sym quotient) h.small)),
      ap (λ (k : ℕ). signed t k) quotient ∙ ap (λ (b : Bool). signed b n) h.value.0,
    )

-- ---- eight times it, and a byte over eight: neither is rounded

-- eight times n eighths is n
pub times_eight : (x : Float) (s : Bool) (n : ℕ) → HasValue x s n 8 → mul binary32 x eight32 ≡ round binary32 s n 1
unfolding mul of_bits
times_eight nan s n h = absurd h
times_eight (inf t) s n h = absurd h
times_eight (fin t m e) s n h =
    ap (λ (b : Bool). round binary32 b (m * up e * 8) (down e * 1)) (unlike-false t ∙ h.0)
    ∙ round_same binary32 s (m * up e * 8) (down e * 1) n 1 (mul-pos (down_pos e) (zero-lt-suc 0)) (zero-lt-suc 0)
    (mul-one (m * up e * 8) ∙ h.1 ∙ ap (λ (k : ℕ). n * k) (sym (mul-one (down e))))

-- an eighth of n is n over eight, rounded
over_eight : (x : Float) (s : Bool) (n : ℕ) → HasValue x s n 1 → mul binary32 x eighth32 ≡ round binary32 s n 8
unfolding mul of_bits
over_eight nan s n h = absurd h
over_eight (inf t) s n h = absurd h
over_eight (fin t m e) s n h =
    ap (λ (b : Bool). round binary32 b (m * up e * 1) (down e * 8)) (unlike-false t ∙ h.0)
    ∙ round_same binary32 s (m * up e * 1) (down e * 8) n 8 (mul-pos (down_pos e) (zero-lt-suc 7)) (zero-lt-suc 7)
    (ap (λ (k : ℕ). k * 8) h.1 ∙ mul_assoc n (down e) 8)

-- which changes nothing
exact : (s : Bool) (n : ℕ) → n ≤ 127 → HasValue (round binary32 s n 8) s n 8
exact s n small =
    let few : n < 2 ^ 24 = omega arith in
    round_exact binary32 s n 8 n 146 (zero-lt-suc 7) few (lt_of_lt_of_le (shl_lt 24 146 few) (pow_mono {i = 24 + 146} {j = 277} (lit≤ tt)))
    (sym (mul_assoc n (2 ^ 146) 8))

-- a byte's float, by its sign and its size; minus zero is no byte
as_float : (s : Bool) (n : ℕ) → T (not (s && eqb n 0)) → of_int binary32 (signed s n) ≡ round binary32 s n 1
unfolding of_int
as_float false n z = refl
as_float true zero z = absurd z
as_float true (suc n) z = refl

-- "no rounding occurs": the product has the byte's sign, and is its size over eight
pub product_exact : (s : Bool) (n : ℕ) → n ≤ 127 → T (not (s && eqb n 0)) → HasValue (times_eighth (signed s n)) s n 8
product_exact s n small z =
    let few : n ≤ 2 ^ 24 = omega arith in
    subst (λ (x : Float). HasValue x s n 8)
    (sym (ap (λ (x : Float). mul binary32 x eighth32) (as_float s n z) ∙ over_eight (round binary32 s n 1) s n (round_whole binary32 s n few)))
    (exact s n small)

-- ---- comparison

pub swap : (a b c d n : ℕ) → a * 8 ≡ n * b → c * 8 ≡ n * d → a * d ≡ c * b
swap a b c d n h k =
    eq_of_mul-eq-mul_right 8 (zero-lt-suc 7) (a * d) (c * b)
    (mul_right_comm a d 8 ∙ ap (λ (x : ℕ). x * d) h ∙ mul_right_comm n b d ∙ ap (λ (x : ℕ). x * b) (sym k) ∙ mul_right_comm c 8 b)

carry : (a b c d n : ℕ) → 0 < b → a * 8 ≡ n * b → a * d ≡ c * b → c * 8 ≡ n * d
carry a b c d n p h k =
    eq_of_mul-eq-mul_right b p (c * 8) (n * d)
    (mul_right_comm c 8 b ∙ ap (λ (x : ℕ). x * 8) (sym k) ∙ mul_right_comm a d 8 ∙ ap (λ (x : ℕ). x * d) h ∙ mul_right_comm n b d)

same_sign : (t u s : Bool) (z : Bool) → t ≡ s → u ≡ s → T (beq t u || z)
same_sign true true s z h k = tt
same_sign false false s z h k = tt
same_sign true false s z h k = absurd (true≢false (h ∙ sym k))
same_sign false true s z h k = absurd (true≢false (k ∙ sym h))

-- as many eighths with one sign are equal
eighths_equal : (x y : Float) (s : Bool) (n : ℕ) → HasValue x s n 8 → HasValue y s n 8 → T (eq x y)
unfolding eq
eighths_equal nan y s n h k = absurd h
eighths_equal (inf t) y s n h k = absurd h
eighths_equal (fin t m e) nan s n h k = absurd k
eighths_equal (fin t m e) (inf u) s n h k = absurd k
eighths_equal (fin t m e) (fin u l d) s n h k =
    let a = m * up e * down d in
    let b = l * up d * down e in
    and_i (eqb a b) (beq t u || eqb a 0) (eq→eqb (swap (m * up e) (down e) (l * up d) (down d) n h.1 k.1)) (same_sign t u s (eqb a 0) h.0 k.0)

-- what equals n eighths is a whole number of them
equal_whole : (x y : Float) (s : Bool) (n : ℕ) → HasValue x s n 8 → n ≤ 127 → T (eq x y) → T (whole_eighths y)
unfolding eq
equal_whole nan y s n h small t = absurd h
equal_whole (inf u) y s n h small t = absurd h
equal_whole (fin u m e) nan s n h small t = absurd t
equal_whole (fin u m e) (inf w) s n h small t = absurd t
equal_whole (fin u m e) (fin w l d) s n h small t =
    let a = m * up e * down d in
    let b = l * up d * down e in
    let same : a ≡ b = eqb→eq a b (and_l (eqb a b) (beq u w || eqb a 0) t) in
    (eighths_whole (fin w l d) w n (record { value = (refl, carry (m * up e) (down e) (l * up d) (down d) n (down_pos e) h.1 same); small = small })).0

-- ---- a value that is not below zero

no_sum : (a b : ℕ) → 0 < a → a * 1 + b ≤ 0 → ⊥
no_sum a b p h = omega arith

plain : (v : Float) → lt v zero32 ≡ false → minus_zero v ≡ false → T (whole_eighths v) → Eighths v false (count v)
unfolding lt minus_zero whole_eighths of_bits
plain nan l z t = absurd t
plain (inf s) l z t = absurd t
plain (fin false m e) l z t = whole-eighths false m e t
plain (fin true zero e) l z t = absurd (true≢false z)
plain (fin true (suc m) e) l z t =
    absurd (no_sum (suc m * up e) (0 * down e) (mul-pos (zero-lt-suc m) (up_pos e)) (ltb-false 0 (suc m * up e * 1 + 0 * down e) l))

-- eight times it is the whole number, which is cut to itself
cut : (v : Float) (n : ℕ) → Eighths v false n → to_unsigned 64 (mul binary32 v eight32) ≡ n
unfolding of_int in_float
cut v n h =
    let some : n ≤ 2 ^ 24 = let k = h.small in omega arith in
    let fit : n < 2 ^ 64 = let k = h.small in omega arith in
    ap (to_unsigned 64) (times_eight v false n h.value) ∙ (unsigned_back binary32 64 n (le→leb n (2 ^ 24) some) fit).1

-- and lies in the range of the cut
above : (x : Float) (n : ℕ) → HasValue x false n 1 → T (lt (neg (of_bits binary32 0x3f800000)) x)
unfolding lt neg of_bits
above nan n h = absurd h
above (inf s) n h = absurd h
above (fin s m e) n h =
    subst (λ (b : Bool). T (lt (fin true 1 (pos 0)) (fin b m e))) (sym h.0)
    (lt→ltb 0 (1 * down e + m * up e * 1) (more (down e) (m * up e * 1) (down_pos e)))
  where
    more : (a b : ℕ) → 0 < a → 0 < 1 * a + b
    more a b p = omega arith

under : (x : Float) (n : ℕ) → HasValue x false n 1 → n < 2 ^ 64 → T (lt x (of_bits binary32 0x5f800000))
unfolding lt of_bits
under nan n h k = absurd h
under (inf s) n h k = absurd h
under (fin s m e) n h k =
    subst (λ (b : Bool). T (lt (fin b m e) (fin false 1 (pos 64)))) (sym h.0)
    (lt→ltb (m * up e * 1) (2 ^ 64 * down e) (subst (λ (a : ℕ). a < 2 ^ 64 * down e) (sym h.1) (mul-lt-mul_of_pos_right k (down_pos e))))

-- ---- what the three tests of `whole_eighths` say

-- eight times the eighths is the whole number, unrounded
pub to_whole : (v : Float) (s : Bool) (n : ℕ) → Eighths v s n → HasValue (mul binary32 v eight32) s n 1
to_whole v s n h =
    let some : n ≤ 2 ^ 24 = let k = h.small in omega arith in
    subst (λ (x : Float). HasValue x s n 1) (sym (times_eight v s n h.value)) (round_whole binary32 s n some)

module _ (v : Float) (l : lt v zero32 ≡ false) (z : minus_zero v ≡ false) where
  refuted : (T (whole_eighths v) → ⊥) → false ≡ whole_eighths v
  refuted f = same_test false (whole_eighths v) (λ t. absurd t) f

  pub too-low : lt (neg (of_bits binary32 0x3f800000)) (mul binary32 v eight32) ≡ false → false ≡ whole_eighths v
  too-low f = refuted (λ t. subst T f (above (mul binary32 v eight32) (count v) (to_whole v false (count v) (plain v l z t))))

  pub too-high : lt (mul binary32 v eight32) (of_bits binary32 0x5f800000) ≡ false → false ≡ whole_eighths v
  too-high f = refuted (λ t.
      let h = plain v l z t in
      let fit : count v < 2 ^ 64 = let k = h.small in omega arith in
      subst T f (under (mul binary32 v eight32) (count v) (to_whole v false (count v) h) fit))

  pub too_many : (n : ℕ) → n ≡ to_unsigned 64 (mul binary32 v eight32) → 128 ≤ n → false ≡ whole_eighths v
  too_many n e f = refuted (λ t.
      let h = plain v l z t in
      let k = h.small in
      let same : n ≡ count v = e ∙ cut v (count v) h in
      omega arith)

  pub found : (n : ℕ) → n ≡ to_unsigned 64 (mul binary32 v eight32) → n < 128 → eq (times_eighth (pos n)) v ≡ whole_eighths v
  found n e f =
      let small : n ≤ 127 = omega arith in
      let x = product_exact false n small tt in
      same_test (eq (times_eighth (pos n)) v) (whole_eighths v) (equal_whole (times_eighth (pos n)) v false n x small)
      (λ t.
      let h = plain v l z t in
      eighths_equal (times_eighth (pos n)) v false n x (subst (λ (k : ℕ). HasValue v false k 8) (sym (e ∙ cut v (count v) h)) h.value))

-- ---- minus zero: one over it is minus infinity

no_product : (a b : ℕ) → 0 < a → a * 1 ≡ 0 * b → ⊥
no_product a b p h = let z = zero-mul b in omega arith

pub zero_sign : (v : Float) → eq v zero32 ≡ true → lt (div binary32 (of_bits binary32 0x3f800000) v) zero32 ≡ minus_zero v
unfolding eq lt div minus_zero of_bits
zero_sign nan h = absurd (true≢false (sym h))
zero_sign (inf s) h = absurd (true≢false (sym h))
zero_sign (fin true zero e) h = refl
zero_sign (fin false zero e) h = refl
zero_sign (fin s (suc m) e) h =
    let a = suc m * up e * 1 in
    absurd (no_product (suc m * up e) (down e) (mul-pos (zero-lt-suc m) (up_pos e))
    (eqb→eq a (0 * down e) (and_l (eqb a (0 * down e)) (beq s false || eqb a 0) (subst T (sym h) tt))))

pub not-zero : (v : Float) → eq v zero32 ≡ false → false ≡ minus_zero v
unfolding eq minus_zero of_bits
not-zero nan h = refl
not-zero (inf s) h = refl
not-zero (fin s zero e) h =
    let a = 0 * up e * 1 in
    let none : a ≡ 0 = ap (λ (k : ℕ). k * 1) (zero-mul (up e)) in
    absurd (subst T h
    (and_i (eqb a (0 * down e)) (beq s false || eqb a 0) (eq→eqb (none ∙ sym (zero-mul (down e)))) (or_r (beq s false) (eqb a 0) (eq→eqb none))))
  where
    or_r : (x y : Bool) → T y → T (x || y)
    or_r true y t = tt
    or_r false y t = t
not-zero (fin true (suc m) e) h = sym (eqb-suc-zero m)
not-zero (fin false (suc m) e) h = refl

-- ---- a value without its sign

pub passes_minus : (v : Float) → true ≡ minus_zero v → false ≡ passes v
unfolding passes
passes_minus v h = subst (λ (b : Bool). false ≡ (whole_eighths v && not b)) h (none (whole_eighths v))
  where
    none : (b : Bool) → false ≡ (b && false)
    none true = refl
    none false = refl

pub passes_other : (v : Float) → minus_zero v ≡ false → whole_eighths v ≡ passes v
unfolding passes
passes_other v h = subst (λ (b : Bool). whole_eighths v ≡ (whole_eighths v && not b)) (sym h) (whole (whole_eighths v))
  where
    whole : (b : Bool) → b ≡ (b && true)
    whole true = refl
    whole false = refl

pub unsigned : (v : Float) → whole_eighths (neg v) ≡ whole_eighths v
unfolding whole_eighths neg
unsigned nan = refl
unsigned (inf s) = refl
unsigned (fin s m e) = refl

-- the negative of what is below zero is not, and is not -0.0
pub positive_sign : (v : Float) → lt v zero32 ≡ true → (lt (neg v) zero32 ≡ false) × (minus_zero (neg v) ≡ false)
unfolding lt neg minus_zero of_bits
positive_sign nan h = absurd (true≢false (sym h))
positive_sign (inf true) h = (refl, refl)
positive_sign (inf false) h = absurd (true≢false (sym h))
positive_sign (fin true m e) h = (le-ltb (m * up e * 1) (0 * down e) (let z = zero-mul (down e) in omega arith), refl)
positive_sign (fin false m e) h = absurd (let z = zero-mul (down e) in let k = ltb-true (m * up e * 1) (0 * down e) h in omega arith)

-- ---- a value that passes, by its sign and its eighths

abbrev pub sign : Float → Bool
sign nan = false
sign (inf s) = s
sign (fin s m e) = s

pub record Passing (v : Float) : Type 0 where
  pub eighths : Eighths v (sign v) (count v)
  pub nonzero : T (not (sign v && eqb (count v) 0))

pub passing : (v : Float) → passes v ≡ true → Passing v
unfolding passes whole_eighths minus_zero
passing nan h = absurd (true≢false (sym h))
passing (inf s) h = absurd (true≢false (sym h))
passing (fin s m e) h =
    let t = subst T (sym h) tt in
    let x = whole-eighths s m e (and_l (whole_eighths (fin s m e)) (not (minus_zero (fin s m e))) t) in
    record { eighths = x; nonzero = kept s m x.value.1 (and_r (whole_eighths (fin s m e)) (not (minus_zero (fin s m e))) t) }
  where
    none : (a n b : ℕ) → 0 < a → a * 8 ≡ n * b → T (eqb n 0) → ⊥
    none a n b p e z = let y = ap (λ (k : ℕ). k * b) (eqb→eq n 0 z) ∙ zero-mul b in omega arith

    kept : (s : Bool) (m : ℕ) → m * up e * 8 ≡ m * up e * 8 / down e * down e → T (not (s && eqb m 0)) → T (not (s && eqb (m * up e * 8 / down e) 0))
    kept false m h t = tt
    kept true zero h t = absurd t
    kept true (suc m) h t =
        not_T (eqb (suc m * up e * 8 / down e) 0) (none (suc m * up e) (suc m * up e * 8 / down e) (down e) (mul-pos (zero-lt-suc m) (up_pos e)) h)

-- an integer as an i8 and back
signed_back : (s : Bool) (n : ℕ) → n ≤ 127 → T (not (s && eqb n 0))
    → T (in_signed binary32 7 (of_int binary32 (signed s n))) × (to_signed 7 (of_int binary32 (signed s n)) ≡ signed s n)
unfolding in_float
signed_back false n small z = positive_back binary32 7 n (le→leb n (2 ^ 24) (omega arith)) (omega arith)
signed_back true zero small z = absurd z
signed_back true (suc n) small z = negative_back binary32 7 n (lt→ltb n (2 ^ 24) (omega arith)) (omega arith)

-- eight times a value that passes is an i8, and the number that `eight_times` says
pub cast : (v : Float) → passes v ≡ true → T (in_signed binary32 7 (mul binary32 v eight32)) × (to_signed 7 (mul binary32 v eight32) ≡ eight_times v)
cast v h =
    let p = passing v h in
    let small = p.eighths.small in
    let is : mul binary32 v eight32 ≡ of_int binary32 (signed (sign v) (count v)) =
    times_eight v (sign v) (count v) p.eighths.value ∙ sym (as_float (sign v) (count v) p.nonzero) in
    let back = signed_back (sign v) (count v) small p.nonzero in (
      subst (λ (x : Float). T (in_signed binary32 7 x)) (sym is) back.0,
      ap (to_signed 7) is ∙ back.1 ∙ sym (eighths_whole v (sign v) (count v) p.eighths).1,
    )
