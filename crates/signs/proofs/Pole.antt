-- No product of up to six `tanh`s comes near the pole of the `atanh`. A `tanh` is at most 1.0101 in size: its fraction rises to 1.0072 at its threshold, and
-- 260 points, so near each other that the upper part at one over the lower part at the one before is at most 1.0101, show as much with every rounding in it.
-- Six factors of 1.0101 make 1.0622. Assumes nothing.
use mathlib.Core.Path.{◌≡◌, refl, sym}
use mathlib.Core.Bool.{Bool, true, false, cond, ◌&&◌, true≢false}
use mathlib.Core.List.{List, [], ◌∷◌, ◌++◌, map}
use mathlib.Mathlib.Data.Bool.Basic.{and_elim_right}
use Prim.Native.Nat.{ℕ, zero, suc, ◌+◌, ◌*◌, ◌≤◌}
use native.Mathlib.Nat.{zero-mul, mul-one}
use native.Mathlib.Numerals.{add-one}
use native.Mathlib.Omega.{arith}
use borrow.Author.Tests.{ltb-true, ltb-false, le-ltb}
use lib.Dec.{T, ltb, leb, leb→le, ltb→lt, lit≤}
use lib.IntN.{ℤ, negsuc}
use lib.ListN.{length, replicate, length-map}
use lib.Ieee.{Float, nan, inf, fin, binary32, up, down, size, span, climb, odd, units, round, neg, add, sum, mul, div, lt, le, eq, is_nan, of_bits}
use lib.Ieee.Fits.{and_l, and_r}
use Rattle.softmath.specs.Single.{◌⊗◌, zero32, one32, fold_from, product}
use Rattle.softmath.specs.Functions.{tanh, tanh_fraction}
use Rattle.softmath.specs.CheckNode.{negated_half_tanh}
use Rattle.code174.specs.Agreement.{each}
use Rattle.code174.proofs.Tests.{each_at}
use Rattle.signs.specs.Signs.{NoneNan, empty, more, near_pole, BelowPole}
use Rattle.signs.proofs.Rounded.{Signed, infinite, finite, Part, part, part_signed}
use Rattle.signs.proofs.Laws.{between_edges}
use Rattle.signs.proofs.Products.{neg-kept}
use Rattle.signs.proofs.Sizes.{Leq, leq, leq_refl, leq_trans, leq_of_le, mul_leq}
use Rattle.signs.proofs.Tanh.{edge, is_edge, ratio, ratio-part, ratio_leq, half_kept}

-- 1.0101
abbrev most : Float
most = of_bits binary32 0x3f814af5

is_most : Part false 1 2 most
unfolding of_bits
is_most = part (lit≤ tt) (lit≤ tt)

-- ---- the points

-- k / 256
abbrev at : ℕ → Float
at k = fin false k (negsuc 7)

at_part : (k : ℕ) → k ≤ 1280 → Part false 0 5 (at k)
at_part k h = part {m = k} {e = negsuc 7} (omega arith) (omega (arith, mul-one k))

-- how far each point is from the one before, the first from 0
widths : List ℕ
widths =
    (236 ∷ 72 ∷ 47 ∷ 36 ∷ 29 ∷ 24 ∷ 21 ∷ 18 ∷ 17 ∷ 15 ∷ 14 ∷ 13 ∷ 12 ∷ 11 ∷ 11 ∷ 10 ∷ 10 ∷ 9 ∷ 9 ∷ [])
    ++ (replicate 3 8 ++ (replicate 5 7 ++ (replicate 8 6 ++ (replicate 15 5 ++ (replicate 32 4 ++ (replicate 56 3 ++ (replicate 59 2 ++ replicate 63 1)))))))

-- from k / 256 on: each ratio is at most 1.0101, and the last point is past the threshold
abbrev low : ℕ → ℕ → Bool
low k j = le (ratio (at j) (at k)) most

covered : ℕ → List ℕ → Bool
covered k [] = lt edge (at k)
covered k (w ∷ ws) = let more = covered (k + w) ws in leb (k + w) 1280 && (low k (k + w) && more)

all_covered : T (covered 0 widths)
unfolding covered widths le lt eq of_bits mul div add sum round size span climb units odd
all_covered = tt

-- a value between the point at k and the threshold lies between two points that follow each other
module _ {s : Bool} {m : ℕ} {e : ℤ} (g : Part s 0 5 (fin s m e)) (end : Leq (fin s m e) edge) where
  abbrev fraction : Float
  fraction = ratio (fin s m e) (fin s m e)

  past : (k : ℕ) → T (lt edge (at k)) → Leq (at k) (fin s m e) → ⊥
  unfolding lt of_bits
  past k t lo = over (leq_trans lo end)
    where
      over : Leq (at k) edge → ⊥
      over (leq h) = omega (arith, ltb→lt (10422845 * 1 * 256) (k * 1 * 2097152) t)

  next : (k j : ℕ) → k ≤ 1280 → j ≤ 1280 → T (low k j) → Leq (at k) (fin s m e) → Leq (fin s m e) (at j) → Leq fraction most
  next k j h h' t lo hi =
      let p = at_part k h in
      let q = at_part j h' in
      leq_trans (ratio_leq p g q lo hi) (leq_of_le (part_signed (ratio-part p q)) is_most t)

  search-from : (k : ℕ) (ws : List ℕ) → k ≤ 1280 → T (covered k ws) → Leq (at k) (fin s m e) → Leq fraction most
  unfolding covered
  search-from k [] h t lo = absurd (past k t lo)
  search-from k (w ∷ ws) h t lo =
      go (ltb (m * up e * 256) ((k + w) * down e)) refl (search-from (k + w) ws few (and_r (low k (k + w)) (covered (k + w) ws) rest))
    where
      few : k + w ≤ 1280
      few = leb→le (k + w) 1280 (and_l (leb (k + w) 1280) (low k (k + w) && covered (k + w) ws) t)

      rest : T (low k (k + w) && covered (k + w) ws)
      rest = and_r (leb (k + w) 1280) (low k (k + w) && covered (k + w) ws) t

      go : (b : Bool) → ltb (m * up e * 256) ((k + w) * down e) ≡ b → (Leq (at (k + w)) (fin s m e) → Leq fraction most) → Leq fraction most
      go true r later =
          let l = ltb-true (m * up e * 256) ((k + w) * down e) r in
          let below : m * up e * 256 ≤ (k + w) * 1 * down e = rw (mul-one (k + w)) (omega arith) in
          next k (k + w) h few (and_l (low k (k + w)) (covered (k + w) ws) rest) lo (leq below)
      go false r later =
          let l = ltb-false (m * up e * 256) ((k + w) * down e) r in
          let above : (k + w) * 1 * down e ≤ m * up e * 256 = rw (mul-one (k + w)) (omega arith) in
          later (leq above)

-- ---- the function

-- at most the threshold in size
not_past : {s : Bool} {x : Float} → Signed s x → lt x (neg edge) ≡ false → lt edge x ≡ false → Leq x edge
unfolding lt neg of_bits
not_past (infinite {s = true}) h g = absurd (true≢false h)
not_past (infinite {s = false}) h g = absurd (true≢false g)
not_past (finite {s = true} {m = m} {e = e}) h g = leq (ltb-false (10422845 * 1 * down e) (m * up e * 2097152) h)
not_past (finite {s = false} {m = m} {e = e}) h g = leq (ltb-false (10422845 * 1 * down e) (m * up e * 2097152) g)

fraction_most : {s : Bool} {x : Float} → Part s 0 5 x → Leq x edge → Leq (tanh_fraction x (x ⊗ x)) most
fraction_most (part {m = m} {e = e} lo hi) h = search-from (part lo hi) h 0 widths (lit≤ tt) all_covered (leq (omega (arith, zero-mul (down e))))

ones_most : Leq (neg one32) most × Leq one32 most
unfolding neg of_bits
ones_most = (leq (lit≤ tt), leq (lit≤ tt))

pub tanh_most : {s : Bool} {x : Float} → Signed s x → Leq (tanh x) most
unfolding tanh
tanh_most {s} {x} g = go (lt x (neg edge)) (lt edge x) refl refl
  where
    go : (a b : Bool) → lt x (neg edge) ≡ a → lt edge x ≡ b → Leq (cond a (neg one32) (cond b one32 (tanh_fraction x (x ⊗ x)))) most
    go true b p q = ones_most.0
    go false true p q = ones_most.1
    go false false p q = fraction_most (between_edges is_edge g p q) (not_past g p q)

-- ---- the product

data AllLow : List Float → Type 0 where
  none : AllLow []
  some : {t : Float} {ts : List Float} → Leq t most → AllLow ts → AllLow (t ∷ ts)

-- 1.0101 n times, multiplied from 1.0
power : ℕ → Float
power zero = one32
power (suc n) = power n ⊗ most

-- between 0.0 and 1.0625
inside : Float → Bool
inside x = lt zero32 x && lt x near_pole

pub record Inside (x : Float) : Type 0 where
  pub number : Part false 0 2 x
  pub low : Leq x near_pole

inside_said : (x : Float) → inside x ≡ true → Inside x
unfolding inside lt of_bits
inside_said nan h = absurd (true≢false (sym h))
inside_said (inf true) h = absurd (true≢false (sym h))
inside_said (inf false) h = absurd (true≢false (sym h))
inside_said (fin true m e) h = absurd (true≢false (sym h))
inside_said (fin false m e) h =
    let l = ltb-true (m * up e * 16) (17 * 1 * down e) (and_elim_right (ltb (0 * down e) (m * up e * 1)) (ltb (m * up e * 16) (17 * 1 * down e)) h) in
    let lo : 0 * down e ≤ m * up e = omega (arith, zero-mul (down e)) in
    let hi : m * up e ≤ 2 * down e = omega arith in
    let under : m * up e * 16 ≤ 17 * 1 * down e = omega arith in
    record { number = part lo hi; low = leq under }

-- up to six of them lie there
powers_inside : each 7 (λ n. inside (power n)) ≡ true
unfolding each inside power mul round size span climb units odd lt of_bits
powers_inside = refl

power_inside : (n : ℕ) → n ≤ 6 → Inside (power n)
power_inside n h = inside_said (power n) (each_at 7 (λ n. inside (power n)) powers_inside n (omega arith))

-- factors of at most 1.0101: with k of them passed and those that follow there are at most six
factors_low : (k : ℕ) (a : Float) (ts : List Float) → k + length ts ≤ 6 → AllLow ts → Leq a (power k) → Leq (fold_from ◌⊗◌ a ts) near_pole
unfolding fold_from power
factors_low k a [] h none g = leq_trans g (power_inside k (omega arith)).low
factors_low k a (t ∷ ts) h (some l ls) g =
    factors_low (suc k) (a ⊗ t) ts (omega (arith, add-one k)) ls
    (mul_leq (power_inside k (omega arith)).number is_most (power_inside (suc k) (omega (arith, add-one k))).number g l)

-- ---- the messages of a check's other positions

negated_most : (m : Float) → is_nan m ≡ false → Leq (negated_half_tanh m) most
unfolding is_nan
negated_most nan h = absurd (true≢false h)
negated_most (inf s) h = tanh_most (half_kept (neg-kept infinite))
negated_most (fin s m e) h = tanh_most (half_kept (neg-kept finite))

all-low : {ms : List Float} → NoneNan ms → AllLow (map negated_half_tanh ms)
all-low empty = none
all-low (more {m = m} h hs) = some (negated_most m h) (all-low hs)

no_larger : {x : Float} → Leq x near_pole → BelowPole x
unfolding lt neg of_bits
no_larger (leq {s = true} {m = m} {e = e} h) = record { from = le-ltb (17 * 1 * down e) (m * up e * 16) h; to = refl }
no_larger (leq {s = false} {m = m} {e = e} h) = record { from = refl; to = le-ltb (17 * 1 * down e) (m * up e * 16) h }

one : Part false 1 1 one32
unfolding of_bits
one = part (lit≤ tt) (lit≤ tt)

pub below_pole : (ms : List Float) → NoneNan ms → length ms ≤ 6 → BelowPole (product (map negated_half_tanh ms))
unfolding power
below_pole ms ps h = no_larger (factors_low 0 one32 (map negated_half_tanh ms) (rw length-map (omega arith)) (all-low ps) (leq_refl one))
