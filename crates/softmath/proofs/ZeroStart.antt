-- Whether the sum of the answers starts from 0.0 or from -0.0 changes no new message: the two sums differ only where every answer is -0.0, and taking off
-- the own answer, which is then -0.0 too, makes both totals one.
-- Assumes nothing.
use mathlib.Core.Path.{◌≡◌, refl, sym, ◌∙◌}
use mathlib.Core.Logic.{◌⊎◌, inl, inr, ⊎_elim}
use mathlib.Core.Bool.{Bool, true, false, ◌&&◌}
use mathlib.Core.List.{List, [], ◌∷◌, map, Memᴰ}
use Prim.Native.Nat.{ℕ, zero, suc, ◌*◌, ◌<◌, compare, Ordering}
use native.Mathlib.Nat.{zero-div, zero-mod, zero-add, add-zero, sub-zero, zero-mul, mul-pos}
use native.Mathlib.Omega.{arith}
use lib.Dec.{leb-zero, is_le}
use lib.IntN.{ℤ, pos}
use lib.Ieee.{Float, nan, inf, fin, binary32, up, down, nearest, units, odd, size, span, climb, round, sum, add, sub, neg, of_bits}
use lib.Ieee.Fits.{up_pos}
use borrow.Author.Tests.{lt-ltb, le-ltb}
use Rattle.softmath.specs.Single.{◌⊕◌, ◌⊖◌, zero32, fold_from, sum_from}
use Rattle.softmath.specs.VariableNode.{new_messages}
use Rattle.softmath.specs.declared.SumKind.TheVariants.{Total}

-- -0.0
abbrev pub minus_zero32 : Float
minus_zero32 = neg zero32

-- ---- nothing rounds to zero, with the sign given

nearest_zero : (o : Ordering) → is_le o ≡ true → nearest 0 o ≡ 0
nearest_zero Ordering.lt h = refl
nearest_zero Ordering.eq h = refl
nearest_zero Ordering.gt h = cc

units-zero : (s : Bool) (u : ℕ) → units binary32 s (nearest 0 (compare 0 u)) 0 ≡ fin s 0 (pos 0)
unfolding units odd
units-zero s u = rw (nearest_zero (compare 0 u) (leb-zero u))

round-zero : (s : Bool) (c : ℕ) → round binary32 s 0 c ≡ fin s 0 (pos 0)
unfolding round size span climb
round-zero s c = simp (zero-div, zero-mod) (units-zero s (c * 1))

-- ---- a zero of either sign beside something: the sums agree, unless that is -0.0

data NegativeZero : Float → Type 0 where
  minus : {e : ℤ} → NegativeZero (fin true 0 e)

-- the zero stands left, and right, of b or a units, which are some
sum_left : (t : Bool) (b c : ℕ) → 0 < b → sum binary32 false 0 t b c ≡ sum binary32 true 0 t b c
unfolding sum
sum_left true b c h = rw (lt-ltb 0 b h, zero-add, sub-zero)
sum_left false b c h = rw (lt-ltb 0 b h, zero-add, sub-zero)

sum-right : (s : Bool) (a c : ℕ) → 0 < a → sum binary32 s a false 0 c ≡ sum binary32 s a true 0 c
unfolding sum
sum-right true a c h = rw (le-ltb a 0 (omega arith), lt-ltb 0 a h, add-zero, sub-zero)
sum-right false a c h = rw (le-ltb a 0 (omega arith), add-zero, sub-zero)

-- what two zeros add to
sum_zeros : (s t : Bool) (c : ℕ) → sum binary32 s 0 t 0 c ≡ fin (s && t) 0 (pos 0)
unfolding sum
sum_zeros true true c = round-zero true c
sum_zeros true false c = round-zero false c
sum_zeros false true c = round-zero false c
sum_zeros false false c = round-zero false c

pub zeros_add : (s t : Bool) (e d : ℤ) → fin s 0 e ⊕ fin t 0 d ≡ fin (s && t) 0 (pos 0)
unfolding add
zeros_add s t e d = simp zero-mul (sum_zeros s t (down e * down d))

-- some digits are some units
pub some : (m : ℕ) (e : ℤ) → 0 < suc m * up e
some m e = let p : 0 < suc m = omega arith in mul-pos p (up_pos e)

-- the two sums are one, or x is -0.0 and each sum is the zero it was started from
abbrev Either : Float → Float → Float → Type 0
Either x p n = (p ≡ n) ⊎ (NegativeZero x × (p ≡ zero32) × (n ≡ minus_zero32))

zero_left : (a : Float) → Either a (zero32 ⊕ a) (minus_zero32 ⊕ a)
unfolding add neg of_bits
zero_left nan = inl refl
zero_left (inf t) = inl refl
zero_left (fin t (suc n) d) = inl (rw (zero-mul (down d)) (sum_left t (suc n * up d * 1) (1 * down d) (omega (arith, some n d))))
zero_left (fin false zero d) = inl (zeros_add false false (pos 0) d ∙ sym (zeros_add true false (pos 0) d))
zero_left (fin true zero d) = inr (minus, zeros_add false true (pos 0) d, zeros_add true true (pos 0) d)

zero_right : (x : Float) → Either x (x ⊕ zero32) (x ⊕ minus_zero32)
unfolding add neg of_bits
zero_right nan = inl refl
zero_right (inf t) = inl refl
zero_right (fin s (suc m) e) = inl (rw (zero-mul (down e)) (sum-right s (suc m * up e * 1) (down e * 1) (omega (arith, some m e))))
zero_right (fin false zero e) = inl (zeros_add false false e (pos 0) ∙ sym (zeros_add false true e (pos 0)))
zero_right (fin true zero e) = inr (minus, zeros_add true false e (pos 0), zeros_add true true e (pos 0))

-- ---- the sums of the answers

data AllNegative : List Float → Type 0 where
  none : AllNegative []
  more : {a : Float} {ys : List Float} → NegativeZero a → AllNegative ys → AllNegative (a ∷ ys)

member_negative : {own : Float} {ys : List Float} → Memᴰ own ys → AllNegative ys → NegativeZero own
member_negative (Memᴰ.head e) (more n all) = rw e n
member_negative (Memᴰ.tail m) (more n all) = member_negative m all

-- the two sums are one, or every answer is -0.0 and each sum is the zero it was started from
abbrev Sums : List Float → Type 0
Sums ys = (sum_from zero32 ys ≡ sum_from minus_zero32 ys) ⊎ (AllNegative ys × (sum_from zero32 ys ≡ zero32) × (sum_from minus_zero32 ys ≡ minus_zero32))

sums_more : (a : Float) (ys : List Float) → Either a (zero32 ⊕ a) (minus_zero32 ⊕ a) → Sums ys → Sums (a ∷ ys)
unfolding fold_from
sums_more a ys (inl e) s = inl (rw e)
sums_more a ys (inr n) (inl e) = inl (rw (n.1, n.2) e)
sums_more a ys (inr n) (inr all) = inr (more n.0 all.0, rw n.1 all.1, rw n.2 all.2)

sums : (ys : List Float) → Sums ys
unfolding fold_from
sums [] = inr (none, refl, refl)
sums (a ∷ ys) = sums_more a ys (zero_left a) (sums ys)

-- ---- the messages

-- taking off -0.0, from totals that differ at most in a zero's sign
less_zero : (own p n : Float) → NegativeZero own → (p ≡ n) ⊎ ((p ≡ zero32) × (n ≡ minus_zero32)) → p ⊖ own ≡ n ⊖ own
unfolding sub add neg of_bits
less_zero own p n g (inl e) = rw e
less_zero nan p n g (inr z) = elim g [ ]
less_zero (inf _) p n g (inr z) = elim g [ ]
less_zero (fin false _ e) p n g (inr z) = elim g [ ]
less_zero (fin true (suc _) e) p n g (inr z) = elim g [ ]
less_zero (fin true zero e) p n minus (inr z) = rw (z.0, z.1) (zeros_add false false (pos 0) e ∙ sym (zeros_add true false (pos 0) e))

pub zero_start : (llr own : Float) (answers : List Float) → Memᴰ own answers
    → (llr ⊕ sum_from zero32 answers) ⊖ own ≡ (llr ⊕ sum_from minus_zero32 answers) ⊖ own
zero_start llr own answers m = ⊎_elim (λ e. rw e)
    (λ all. less_zero own (llr ⊕ sum_from zero32 answers) (llr ⊕ sum_from minus_zero32 answers) (member_negative m all.0)
    (rw (all.1, all.2) (⊎_elim (λ e. inl e) (λ z. inr (z.1, z.2)) (zero_right llr))))
    (sums answers)

-- every message of a bit: those of a total started from -0.0 are those of the definition
messages_from : (t u : Float) (answers : List Float) → ((own : Float) → Memᴰ own answers → t ⊖ own ≡ u ⊖ own)
    → map (λ own. t ⊖ own) answers ≡ map (λ own. u ⊖ own) answers
messages_from t u [] h = refl
messages_from t u (a ∷ ys) h = rw (h a (Memᴰ.head refl), messages_from t u ys (λ own m. h own (Memᴰ.tail m)))

pub messages_same : (llr : Float) (answers : List Float) → new_messages Total llr answers ≡ map (λ own. (llr ⊕ sum_from minus_zero32 answers) ⊖ own) answers
unfolding new_messages
messages_same llr answers = messages_from (llr ⊕ sum_from zero32 answers) (llr ⊕ sum_from minus_zero32 answers) answers (λ own m. zero_start llr own answers m)
