-- A turn of each loop over a staircase code's rows: the row's place in the table, the XOR of the whole row from its parts, and what is left to do. Assumes
-- nothing.
use mathlib.Core.Path.{◌≡◌, refl, sym, ap, ◌∙◌}
use mathlib.Core.List.{List, [], ◌∷◌, ◌++◌}
use Prim.Native.Nat.{ℕ, zero, suc, ◌+◌, ◌-◌, ◌*◌, ◌<◌, ◌≤◌}
use native.Mathlib.Nat.{add-zero, suc-mul, mul-le-mul_right, add-sub_cancel_left}
use native.Mathlib.Numerals.{add-one}
use native.Mathlib.Omega.{arith}
use lib.Bits.{bit_xor, xor_zero_r}
use lib.ListN.{get_or, take, drop}
use Rattle.tanner.specs.Checks.{xor_from}
use Rattle.lists.specs.Below.{Below}
use Rattle.lists.proofs.Below.{below-part, below_less}
use Rattle.staircase.specs.Staircase.{parity_entries}
use Rattle.staircase.specs.Shape.{taps_at, stair_row, stair_rows}
use Rattle.stairs.specs.Stairs.{bit_before}

-- ---- the row's place in the table

pub row_fits : (width m i n : ℕ) → i < m → m * width ≤ n → i * width + width ≤ n
row_fits width m i n h s =
    let next : suc i ≤ m = h in
    omega (arith, suc-mul i width, mul-le-mul_right width next)

pub row_part : (width i : ℕ) (table : List ℕ) → take (i * width + width - i * width) (drop (i * width) table) ≡ taps_at width table i
unfolding taps_at
row_part width i table = rw (add-sub_cancel_left (i * width) width)

pub row_low : (k n width a : ℕ) (table : List ℕ) → k ≤ n → Below k table → Below n (take (a + width - a) (drop a table))
row_low k n width a table h low = below_less k n _ h (below-part k table a (a + width) low)

-- ---- the rows that are left

pub rows_more : (k width m : ℕ) (table : List ℕ) (i : ℕ) → i < m
    → stair_rows k width table i (m - i) ≡ stair_row k width table i ∷ stair_rows k width table (i + 1) (m - (i + 1))
unfolding stair_rows
rows_more k width m table i h =
    let e : m - i ≡ suc (m - (i + 1)) = omega arith in
    rw (e, add-one i)

pub rows_done : (k width m : ℕ) (table : List ℕ) (i : ℕ) → m ≤ i → stair_rows k width table i (m - i) ≡ []
unfolding stair_rows
rows_done k width m table i h =
    let e : m - i ≡ 0 = omega arith in
    rw e

-- ---- the XOR of a row

xor_append : (x : ℕ) (ps qs bytes : List ℕ) → xor_from x (ps ++ qs) bytes ≡ xor_from (xor_from x ps bytes) qs bytes
unfolding xor_from
xor_append x [] qs bytes = refl
xor_append x (p ∷ ps) qs bytes = xor_append (bit_xor x (get_or bytes p 0)) ps qs bytes

entries-xor : (k i x : ℕ) (bytes : List ℕ) → xor_from x (parity_entries k i) bytes ≡ bit_xor (bit_xor x (get_or bytes (k + i) 0)) (bit_before k i bytes)
unfolding xor_from parity_entries bit_before
entries-xor k zero x bytes = rw (add-zero k, xor_zero_r (bit_xor x (get_or bytes k 0)))
entries-xor k (suc i) x bytes = refl

-- its message positions, then its own parity bit, then the one before
pub row-xor : (k width : ℕ) (table bytes : List ℕ) (i x before : ℕ)
    → x ≡ xor_from 0 (take (i * width + width - i * width) (drop (i * width) table)) bytes → before ≡ bit_before k i bytes
    → bit_xor (bit_xor x (get_or bytes (k + i) 0)) before ≡ xor_from 0 (stair_row k width table i) bytes
row-xor k width table bytes i x before f b =
    let whole : x ≡ xor_from 0 (taps_at width table i) bytes = f ∙ ap (λ (ps : List ℕ). xor_from 0 ps bytes) (row_part width i table) in
    rw (whole, b) (sym (xor_append 0 (taps_at width table i) (parity_entries k i) bytes ∙ entries-xor k i (xor_from 0 (taps_at width table i) bytes) bytes))

pub before_more : (k i : ℕ) (bytes : List ℕ) → get_or bytes (k + i) 0 ≡ bit_before k (i + 1) bytes
unfolding bit_before
before_more k i bytes = rw add-one

pub before-none : (k : ℕ) (bytes : List ℕ) → 0 ≡ bit_before k 0 bytes
unfolding bit_before
before-none k bytes = refl
