-- A turn of the loop that fills in parity bits, and one part after another: what is stored is the count of its row alone with the bit at 0. By induction
-- over the rows. Assumes nothing.
use mathlib.Core.Path.{◌≡◌, refl, sym, ap, ◌∙◌}
use mathlib.Core.List.{List, [], ◌∷◌, ◌++◌}
use Prim.Native.Nat.{ℕ, zero, suc, ◌+◌, ◌-◌, ◌*◌, ◌%◌, ◌<◌, ◌≤◌}
use native.Mathlib.Nat.{add-zero, mul-le-mul_right}
use native.Mathlib.Numerals.{add-one}
use native.Mathlib.Omega.{arith}
use lib.Bits.{bit_and, bit_xor, and_mask, xor_zero_r}
use lib.ListN.{length, get_or, take, drop, set}
use lib.Seq.{get_or-set_same, get_or-set_other}
use Rattle.tanner.specs.Checks.{Checks, xor_from, nonzero}
use Rattle.tanner.specs.Masked.{count_masked}
use Rattle.lists.specs.Below.{Below}
use Rattle.lists.proofs.Below.{below-part, below-first, below_rest}
use Rattle.tanner.proofs.Count.{nonzero_bit}
use Rattle.staircase.specs.Shape.{stair_row, stair_rows}
use Rattle.stairs.specs.Stairs.{Stairs, bit_before}
use Rattle.stairs.proofs.Rows.{rows_more, rows_done, row-xor}
use Rattle.stair_parity.specs.Filling.{Part, filled}

-- ---- the rows of a part

rows_append : (k width : ℕ) (table : List ℕ) (i a b : ℕ) → stair_rows k width table i (a + b)
    ≡ stair_rows k width table i a ++ stair_rows k width table (i + a) b
unfolding stair_rows
rows_append k width table i zero b =
    let e : 0 + b ≡ b = omega arith in
    rw (add-zero i, e) refl
rows_append k width table i (suc a) b =
    let e : suc i + a ≡ i + suc a = omega arith in
    let f : suc a + b ≡ suc (a + b) = omega arith in
    rw f (ap (λ (rs : Checks). stair_row k width table i ∷ rs) (rw e at (rows_append k width table (suc i) a b)))

rows_length : (k width : ℕ) (table : List ℕ) (i n : ℕ) → length (stair_rows k width table i n) ≡ n
unfolding stair_rows
rows_length k width table i zero = refl
rows_length k width table i (suc n) = ap suc (rows_length k width table (suc i) n)

-- the bit that was stored is the one before the next
pub before-set : (k i v : ℕ) (w : List ℕ) → k + i < length w → v ≡ bit_before k (i + 1) (set w (k + i) v)
unfolding bit_before
before-set k i v w h = rw add-one (sym (get_or-set_same w (k + i) v 0 h))

-- ---- a parity bit filled in

xor_other : (k at v x : ℕ) (ps bytes : List ℕ) → k ≤ at → Below k ps → xor_from x ps (set bytes at v) ≡ xor_from x ps bytes
unfolding xor_from
xor_other k at v x [] bytes h low = refl
xor_other k at v x (p ∷ ps) bytes h low =
    let first : p < k = below-first k p ps low in
    let same : get_or (set bytes at v) p 0 ≡ get_or bytes p 0 = get_or-set_other bytes at p v 0 (λ e. omega arith) in
    rw same (xor_other k at v (bit_xor x (get_or bytes p 0)) ps bytes h (below_rest k p ps low))

before_other : (k i v : ℕ) (bytes : List ℕ) → bit_before k i (set bytes (k + i) v) ≡ bit_before k i bytes
unfolding bit_before
before_other k zero v bytes = refl
before_other k (suc i) v bytes = get_or-set_other bytes (k + suc i) (k + i) v 0 (λ e. omega arith)

nonzero-low : (y : ℕ) → nonzero (bit_and y 1) ≡ bit_and y 1
nonzero-low y =
    let e : bit_and y 1 ≡ y % 2 = and_mask y 1 in
    rw e (nonzero_bit (y % 2) (omega arith))

module _ (k width : ℕ) (table w : List ℕ) (i x before : ℕ) (f : x ≡ xor_from 0 (take (i * width + width - i * width) (drop (i * width) table)) w)
    (b : before ≡ bit_before k i w) (low : Below k table) (inside : k + i < length w) where
  -- what is stored is the count of the row alone, with the bit at 0
  stored-bit : bit_and (bit_xor x before) 1 ≡ count_masked 1 (stair_row k width table i ∷ []) (set w (k + i) 0)
  unfolding count_masked
  stored-bit =
      let v = set w (k + i) 0 in
      let a = i * width in
      let ps = take (a + width - a) (drop a table) in
      let taps : x ≡ xor_from 0 ps v = f ∙ sym (xor_other k (k + i) 0 0 ps w (omega arith) (below-part k table a (a + width) low)) in
      let own : get_or v (k + i) 0 ≡ 0 = get_or-set_same w (k + i) 0 0 inside in
      let row : bit_xor (bit_xor x (get_or v (k + i) 0)) before ≡ xor_from 0 (stair_row k width table i) v =
      row-xor k width table v i x before taps (b ∙ sym (before_other k i 0 w)) in
      let less : bit_xor x before ≡ xor_from 0 (stair_row k width table i) v = (rw (own, xor_zero_r x) at row) in
      rw less (omega (arith, nonzero-low (xor_from 0 (stair_row k width table i) v)))

  pub fill_more : (m : ℕ) (z : List ℕ) → i < m → filled (stair_rows k width table i (m - i)) (k + i) w ≡ z
      → filled (stair_rows k width table (i + 1) (m - (i + 1))) (k + (i + 1)) (set w (k + i) (bit_and (bit_xor x before) 1)) ≡ z
  unfolding filled
  fill_more m z h inv =
      let n : k + (i + 1) ≡ suc (k + i) = omega arith in
      rw (n, stored-bit) (rw (rows_more k width m table i h) at inv)

pub fill_done : (k width m : ℕ) (table : List ℕ) (i : ℕ) (w z : List ℕ) → m ≤ i → filled (stair_rows k width table i (m - i)) (k + i) w ≡ z → w ≡ z
unfolding filled
fill_done k width m table i w z h inv = rw (rows_done k width m table i h) at inv

-- ---- one part filled in after another

filled_append : (xs ys : Checks) (p : ℕ) (w : List ℕ) → filled (xs ++ ys) p w ≡ filled ys (p + length xs) (filled xs p w)
unfolding filled
filled_append [] ys p w = rw (add-zero p)
filled_append (x ∷ xs) ys p w =
    let e : suc p + length xs ≡ p + suc (length xs) = omega arith in
    rw e at (filled_append xs ys (suc p) (set w p (count_masked 1 (x ∷ []) (set w p 0))))

-- b rows from row `at` on, after a rows before it
pub fill_then : (k width : ℕ) (table : List ℕ) (first a b at : ℕ) (w u v : List ℕ) → at ≡ first + a
    → u ≡ filled (stair_rows k width table first a) (k + first) w → v ≡ filled (stair_rows k width table at b) (k + at) u
    → v ≡ filled (stair_rows k width table first (a + b)) (k + first) w
fill_then k width table first a b at w u v h e f =
    let rows = stair_rows k width table first a in
    let n : k + at ≡ k + first + length rows = omega (arith, rows_length k width table first a) in
    let more : v ≡ filled (stair_rows k width table (first + a) b) (k + first + length rows) (filled rows (k + first) w) =
    f ∙ rw (n, h, e) refl in
    more ∙ rw (rows_append k width table first a b) (sym (filled_append rows (stair_rows k width table (first + a) b) (k + first) w))

-- a part of a code's rows
pub part_of : (first n : ℕ) {k width m len : ℕ} {table : List ℕ} → Stairs k width m len table → first + n ≤ m → Part k width first n len table
part_of first n {width = width} s h = record {
  size = omega (arith, s.size, mul-le-mul_right width h);
  low = s.low;
  room = omega (arith, s.room);
}
