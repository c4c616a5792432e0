-- Rows of bits, added modulo 2: where a test says that each of some rows is a sum of others, a word that has an even number of 1 under the others has
-- so under each of them. By induction over the rows. Assumes nothing.
use mathlib.Core.Path.{◌≡◌, refl, sym, ap, ◌∙◌}
use mathlib.Core.Bool.{Bool, true, false, ◌&&◌}
use mathlib.Core.List.{List, [], ◌∷◌}
use mathlib.Mathlib.Data.Bool.Basic.{and_elim_left, and_elim_right}
use Prim.Native.Nat.{ℕ, zero, suc, ◌+◌, ◌*◌, ◌/◌, ◌%◌}
use native.Mathlib.Nat.{add-mul, mul_assoc, mul_comm, div-add-mod'}
use native.Mathlib.Omega.{arith}
use lib.ListN.{get_or, take}
use Rattle.tanner.specs.Checks.{Word, parity}
use Rattle.ldpc_encoding.specs.Encoding.{under}
use Rattle.ldpc_encoding.proofs.Parity.{under_bit}

-- one entry, 0 or 1, for each position; past its end a row holds 0
abbrev pub Row : Type 0
Row = List ℕ

-- ---- a row's sum with another, and what a word has under it
unfoldable pub added : Row → Row → Row
added [] s = s
added (x ∷ r) [] = x ∷ r
added (x ∷ r) (y ∷ s) = (x + y) % 2 ∷ added r s

-- an entry counts by its remainder
entry-odd : (x b u : ℕ) → (x % 2 * b + u) % 2 ≡ (x * b + u) % 2
entry-odd x b u =
    let whole : x * b ≡ x / 2 * b * 2 + x % 2 * b =
    ap (λ (n : ℕ). n * b) (sym (div-add-mod' x 2)) ∙ add-mul (x / 2 * 2) (x % 2) b
    ∙ ap (λ (n : ℕ). n + x % 2 * b) (mul_assoc (x / 2) 2 b ∙ ap (λ (n : ℕ). x / 2 * n) (mul_comm 2 b) ∙ sym (mul_assoc (x / 2) b 2))
    in
    omega (arith, whole)

pub under-added : (r s : Row) (w : Word) → under (added r s) w ≡ (under r w + under s w) % 2
unfolding under added
under-added [] s w = omega (arith, under_bit s w)
under-added (x ∷ r) [] w = omega (arith, under_bit (x ∷ r) w)
under-added (x ∷ r) (y ∷ s) [] = refl
under-added (x ∷ r) (y ∷ s) (b ∷ w) =
    entry-odd (x + y) b (under (added r s) w) ∙ omega (arith, under-added r s w, add-mul x y b)

-- ---- the row of one position, and of a check
unfoldable pub unit : ℕ → Row
unit zero = 1 ∷ []
unit (suc p) = 0 ∷ unit p

pub under_unit : (p : ℕ) (w : Word) → under (unit p) w ≡ get_or w p 0 % 2
unfolding under unit
under_unit zero [] = refl
under_unit zero (b ∷ w) = omega arith
under_unit (suc p) [] = refl
under_unit (suc p) (b ∷ w) = omega (arith, under_unit p w)

unfoldable pub row_of : List ℕ → Row
row_of [] = []
row_of (p ∷ ps) = added (unit p) (row_of ps)

pub under-row : (ps : List ℕ) (w : Word) → under (row_of ps) w ≡ parity ps w
unfolding under row_of parity
under-row [] w = refl
under-row (p ∷ ps) w = under-added (unit p) (row_of ps) w ∙ omega (arith, under_unit p w, under-row ps w)

-- ---- a row of n entries says nothing of the word past them
pub under-take : (n : ℕ) (r : Row) (w : Word) → under (take n r) w ≡ under (take n r) (take n w)
unfolding under
under-take zero r w = refl
under-take (suc n) [] w = refl
under-take (suc n) (g ∷ r) [] = refl
under-take (suc n) (g ∷ r) (b ∷ w) = rw (under-take n r w)

-- ---- rows under which a word has an even number of 1
pub data AllEven (w : Word) : List Row → Type 0 where
  none : AllEven w []
  more : {r : Row} {rs : List Row} → under r w ≡ 0 → AllEven w rs → AllEven w (r ∷ rs)

-- the sum of the rows at which the binary digits of a number are 1, lowest digit first
unfoldable pub added_if : ℕ → Row → Row → Row
added_if zero r s = s
added_if (suc d) r s = added r s

unfoldable pub sum_at : ℕ → List Row → Row
sum_at n [] = []
sum_at n (r ∷ rs) = added_if (n % 2) r (sum_at (n / 2) rs)

added_if_even : (d : ℕ) (r s : Row) (w : Word) → under r w ≡ 0 → under s w ≡ 0 → under (added_if d r s) w ≡ 0
unfolding added_if
added_if_even zero r s w e f = f
added_if_even (suc d) r s w e f = under-added r s w ∙ omega arith

sum_even : (w : Word) (n : ℕ) {rs : List Row} → AllEven w rs → under (sum_at n rs) w ≡ 0
unfolding under sum_at
sum_even w n none = refl
sum_even w n (more {r = r} {rs = rs} e es) = added_if_even (n % 2) r (sum_at (n / 2) rs) w e (sum_even w (n / 2) es)

-- ---- the test: with each row goes a number, and the row is the sum of the others at that number's digits
unfoldable pub empty : Row → Bool
empty [] = true
empty (zero ∷ r) = empty r
empty (suc x ∷ r) = false

under_empty : (r : Row) (w : Word) → empty r ≡ true → under r w ≡ 0
unfolding under empty
under_empty [] w t = refl
under_empty (zero ∷ r) [] t = refl
under_empty (zero ∷ r) (b ∷ w) t = omega (arith, under_empty r w t)
under_empty (suc x ∷ r) w t = absurd (let z : ◌≡◌ {A = ℕ} 0 1 = cc in omega arith)

unfoldable pub sums : List ℕ → List Row → List Row → Bool
sums [] [] others = true
sums [] (r ∷ rs) others = false
sums (n ∷ ns) [] others = false
sums (n ∷ ns) (r ∷ rs) others = empty (added r (sum_at n others)) && sums ns rs others

pub sums_even : (ns : List ℕ) (rs others : List Row) (w : Word) → sums ns rs others ≡ true → AllEven w others → AllEven w rs
unfolding sums
sums_even [] [] others w t es = none
sums_even [] (r ∷ rs) others w t es = absurd (let z : ◌≡◌ {A = ℕ} 0 1 = cc in omega arith)
sums_even (n ∷ ns) [] others w t es = none
sums_even (n ∷ ns) (r ∷ rs) others w t es =
    let here = empty (added r (sum_at n others)) in
    let zero-sum : under (added r (sum_at n others)) w ≡ 0 = under_empty (added r (sum_at n others)) w (and_elim_left here (sums ns rs others) t) in
    more {r = r} (omega (arith, zero-sum, under-added r (sum_at n others) w, sum_even w n es, under_bit r w))
    (sums_even ns rs others w (and_elim_right here (sums ns rs others) t) es)
