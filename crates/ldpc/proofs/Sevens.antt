-- Counting by the rows of `NM`: a turn of each loop, a table of rows in parts, and that over a word with a byte 0 before it the rows count what the checks
-- count over the word. The last by one computed test: the rows' positions, counted from 0, are the checks'. Assumes nothing else.
use mathlib.Core.Path.{◌≡◌, refl, sym, ap, ◌∙◌}
use mathlib.Core.Bool.{Bool, true, false, cond}
use mathlib.Core.List.{List, [], ◌∷◌, map}
use Prim.Native.Nat.{ℕ, zero, suc, ◌+◌, ◌-◌, ◌*◌, ◌<◌, ◌≤◌}
use native.Mathlib.Nat.{add-sub_cancel_left}
use native.Mathlib.Omega.{arith}
use borrow.Author.Tests.{ltb-true, eq-eqb, ne_eqb}
use lib.Bits.{bit_xor, bit_and, xor_zero_r}
use lib.Dec.{eqb, ltb}
use lib.ListN.{length, get_or, take, drop}
use lib.Seq.{drop-drop}
use Rattle.tanner.specs.Checks.{Checks, xor_from, nonzero, first_by}
use Rattle.tanner.specs.Masked.{count_masked, measured, first_masked}
use Rattle.lists.specs.Below.{Below}
use Rattle.code174.specs.Agreement.{each}
use Rattle.code174.specs.Code174.{rows_of_seven, checks}
use Rattle.ldpc.specs.Rows.{Rows, sevens, from_one}
use Rattle.code174.specs.Tables.{nm, num_rows}
use Rattle.code174.proofs.Tests.{each_at}

-- ---- a turn

pub rows_more : (rows c : ℕ) (t : List ℕ) → c < rows
    → sevens (rows - c) (drop (c * 7) t) ≡ take (c * 7 + 7 - c * 7) (drop (c * 7) t) ∷ sevens (rows - (c + 1)) (drop ((c + 1) * 7) t)
unfolding sevens
rows_more rows c t h =
    let n : rows - c ≡ suc (rows - (c + 1)) = omega arith in
    let s : (c + 1) * 7 ≡ c * 7 + 7 = omega arith in
    rw (n, s, add-sub_cancel_left (c * 7) 7, drop-drop 7 (c * 7) t)

pub rows_done : (rows c : ℕ) (t : List ℕ) → rows ≤ c → sevens (rows - c) (drop (c * 7) t) ≡ []
unfolding sevens
rows_done rows c t h =
    let n : rows - c ≡ 0 = omega arith in
    rw n

-- ---- the word with a byte 0 before it

xor-from_one : (x : ℕ) (ps w : List ℕ) → xor_from x ps (0 ∷ w) ≡ xor_from x (from_one ps) w
unfolding xor_from from_one
xor-from_one x [] w = refl
xor-from_one x (zero ∷ ps) w = rw (xor_zero_r x) (xor-from_one x ps w)
xor-from_one x (suc p ∷ ps) w = xor-from_one (bit_xor x (get_or w p 0)) ps w

module _ (mask : ℕ) (w : List ℕ) where
  measured-same : (r : List ℕ) → measured mask (0 ∷ w) r ≡ measured mask w (from_one r)
  measured-same r = ap (λ (x : ℕ). nonzero (bit_and x mask)) (xor-from_one 0 r w)

  count_same : (rs : Checks) → count_masked mask rs (0 ∷ w) ≡ count_masked mask (map from_one rs) w
  unfolding count_masked
  count_same [] = refl
  count_same (r ∷ rs) = rw (measured-same r, count_same rs)

  first-same : (c : ℕ) (rs : Checks) → first_by (measured mask (0 ∷ w)) c rs ≡ first_by (measured mask w) c (map from_one rs)
  unfolding first_by
  first-same c [] = refl
  first-same c (r ∷ rs) = rw (measured-same r, first-same (suc c) rs)

-- the computed test
nm_rows : map from_one (sevens 83 nm) ≡ checks
unfolding from_one sevens nm num_rows checks rows_of_seven
nm_rows = refl

checks_counted : (mask : ℕ) (w : List ℕ) → count_masked mask (sevens 83 nm) (0 ∷ w) ≡ count_masked mask checks w
checks_counted mask w = count_same mask w (sevens 83 nm) ∙ ap (λ (cs : Checks). count_masked mask cs w) nm_rows

checks-first : (mask : ℕ) (w : List ℕ) → first_masked mask (sevens 83 nm) (0 ∷ w) ≡ first_masked mask checks w
checks-first mask w = first-same mask w 0 (sevens 83 nm) ∙ ap (λ (cs : Checks). first_masked mask cs w) nm_rows

-- of a word that has a byte 0 before it
behind : (p : List ℕ) → length p ≡ 175 → get_or p 0 0 ≡ 0 → p ≡ 0 ∷ drop 1 p
behind [] n z = absurd (omega arith)
behind (x ∷ p) n z = ap (λ (y : ℕ). y ∷ p) z

module _ (mask : ℕ) (p : List ℕ) (n : length p ≡ 175) (z : get_or p 0 0 ≡ 0) where
  pub behind-counted : count_masked mask (sevens 83 nm) p ≡ count_masked mask checks (drop 1 p)
  behind-counted = ap (count_masked mask (sevens 83 nm)) (behind p n z) ∙ checks_counted mask (drop 1 p)

  pub behind-first : first_masked mask (sevens 83 nm) p ≡ first_masked mask checks (drop 1 p)
  behind-first = ap (first_masked mask (sevens 83 nm)) (behind p n z) ∙ checks-first mask (drop 1 p)

-- ---- in parts

-- the first n rows, and the rest
count_parts : (mask : ℕ) (bytes : List ℕ) (n k : ℕ) (t : List ℕ) → count_masked mask (sevens (n + k) t) bytes ≡ count_masked mask
    (sevens n t) bytes + count_masked mask (sevens k (drop (n * 7) t)) bytes
unfolding count_masked sevens
count_parts mask bytes zero k t =
    let z : 0 + k ≡ k = omega arith in
    rw z (omega arith)
count_parts mask bytes (suc n) k t =
    let s : suc n + k ≡ suc (n + k) = omega arith in
    let d : suc n * 7 ≡ 7 + n * 7 = omega arith in
    rw (s, d, ← drop-drop (n * 7) 7 t) (omega (arith, count_parts mask bytes n k (drop 7 t)))

module _ (mask : ℕ) (bytes : List ℕ) where
  bit : (b : Bool) → cond b 0 1 ≤ 1
  bit true = omega arith
  bit false = omega arith

  pub rows_few : (n : ℕ) (t : List ℕ) → count_masked mask (sevens n t) bytes ≤ n
  unfolding count_masked sevens
  rows_few zero t = omega arith
  rows_few (suc n) t = omega (arith, bit (eqb (bit_and (xor_from 0 (take 7 t) bytes) mask) 0), rows_few n (drop 7 t))

-- one row more, whose bytes XORed are x, after n counted rows of c
module _ (mask : ℕ) (bytes t : List ℕ) (c n x : ℕ) (e : x ≡ xor_from 0 (take (c * 7 + 7 - c * 7) (drop (c * 7) t)) bytes)
    (so-far : n ≡ count_masked mask (sevens c t) bytes) where
  one-more : count_masked mask (sevens (c + 1) t) bytes ≡ n + nonzero (bit_and x mask)
  unfolding count_masked sevens
  one-more = rw (e, add-sub_cancel_left (c * 7) 7) (omega (arith, so-far, count_parts mask bytes c 1 t))

  pub row-counted : (bit_and x mask ≡ 0 → ⊥) → n + 1 ≡ count_masked mask (sevens (c + 1) t) bytes
  row-counted h = sym (simp (ne_eqb _ _ h) at one-more)

  pub row_passed : bit_and x mask ≡ 0 → n ≡ count_masked mask (sevens (c + 1) t) bytes
  row_passed h = omega (arith, simp (eq-eqb _ _ h) at one-more)

-- the entries are places of a word with a byte before it
nm-low : Below 175 nm
unfolding Below each nm
nm-low k h = ltb-true _ _ (each_at 581 (λ (i : ℕ). ltb (get_or nm i 0) 175) refl k h)

pub nm-whole : (n : ℕ) → n ≡ 175 → Rows 83 nm n
unfolding nm
nm-whole n e = record { size = refl; low = rw e nm-low; few = omega arith }
