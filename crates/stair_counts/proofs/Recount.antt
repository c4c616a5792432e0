-- A word's count is the number of rows in which it is apart from the encoding of its first K bytes: the two have the same message bits, so a row's
-- parities in them differ by what its parity bits differ by, and in the encoding every row's is 0. Assumes nothing.
use mathlib.Core.Path.{◌≡◌, refl, sym, ap, ◌∙◌}
use mathlib.Core.List.{List, ◌++◌}
use Prim.Native.Nat.{ℕ, zero, suc, ◌+◌, ◌-◌, ◌%◌, ◌<◌, ◌≤◌}
use native.Mathlib.Numerals.{add-one}
use native.Mathlib.Omega.{arith}
use lib.Bits.{bit_and, bit_xor, and_mask}
use lib.ListN.{length, get_or, take}
use lib.Seq.{take_at, length-take-le}
use Rattle.construction.specs.Codes.{Code, block_length}
use Rattle.tanner.specs.Checks.{parity, count, low_bits}
use Rattle.tanner.specs.Masked.{count_masked}
use Rattle.tanner.proofs.Count.{low_at, low-length, low_append, low-take, low_count, xor_low}
use Rattle.staircase.specs.Staircase.{taps, check_row, check_rows, parity_bits, encoded}
use Rattle.staircase.specs.Codes.{code_of, columns, checks}
use Rattle.staircase.proofs.EdgeCount.{columns-length}
use Rattle.stairs.specs.Stairs.{bit_before}
use Rattle.stairs.proofs.Rows.{before_more}
use Rattle.parities.proofs.Codewords.{row-message, encode-count}
use Rattle.stair_counts.specs.Apart.{apart, rows_apart}

-- ---- sums of low bits

odd-each : (x y a b : ℕ) → x % 2 ≡ a % 2 → y % 2 ≡ b % 2 → (x + y) % 2 ≡ (a + b) % 2
odd-each x y a b e f = omega arith

odd-apart : (t a b : ℕ) → (t + a) % 2 ≡ 0 → (t + b) % 2 ≡ (a + b) % 2
odd-apart t a b z = omega arith

-- ---- a turn of the loop

-- what the code adds for a row
pub apart_of : (k i : ℕ) (u w : List ℕ) (before : ℕ) → before ≡ bit_xor (bit_before k i u) (bit_before k i w)
    → bit_and (bit_xor (bit_xor (get_or u (k + i) 0) (get_or w (k + i) 0)) before) 1 ≡ apart k i u w
unfolding apart
apart_of k i u w before e =
    let own = bit_xor (get_or u (k + i) 0) (get_or w (k + i) 0) in
    let low : before % 2 ≡ (bit_before k i u + bit_before k i w) % 2 = rw e (xor_low (bit_before k i u) (bit_before k i w)) in
    and_mask (bit_xor own before) 1 ∙ xor_low own before ∙ odd-each own before _ _ (xor_low (get_or u (k + i) 0) (get_or w (k + i) 0)) low

pub apart_bit : (k i : ℕ) (u w : List ℕ) → apart k i u w < 2
unfolding apart
apart_bit k i u w = omega arith

-- the bytes' difference is carried along
pub none_before : (k : ℕ) (u w : List ℕ) → 0 ≡ bit_xor (bit_before k 0 u) (bit_before k 0 w)
unfolding bit_before
none_before k u w = refl

pub own_before : (k i : ℕ) (u w : List ℕ)
    → bit_xor (get_or u (k + i) 0) (get_or w (k + i) 0) ≡ bit_xor (bit_before k (i + 1) u) (bit_before k (i + 1) w)
own_before k i u w = rw (before_more k i u, before_more k i w)

pub apart_more : (k i m : ℕ) (u w : List ℕ) → i < m → rows_apart k i (m - i) u w ≡ apart k i u w + rows_apart k (i + 1) (m - (i + 1)) u w
unfolding rows_apart
apart_more k i m u w h =
    let e : m - i ≡ suc (m - (i + 1)) = omega arith in
    rw (e, add-one i)

pub apart_none : (k i m : ℕ) (u w : List ℕ) → m ≤ i → rows_apart k i (m - i) u w ≡ 0
unfolding rows_apart
apart_none k i m u w h =
    let e : m - i ≡ 0 = omega arith in
    rw e

-- ---- the law

before-low : (k i : ℕ) (w : List ℕ) → bit_before k i (low_bits w) ≡ bit_before k i w % 2
unfolding bit_before
before-low k zero w = refl
before-low k (suc i) w = low_at w (k + i)

module _ (k : ℕ) (cols : List (List ℕ)) (size : length cols ≤ k) (u w : List ℕ) (same : take k (low_bits u) ≡ take k (low_bits w)) where
  -- of either word, with the message bits of w
  row_low : (x : List ℕ) → take k (low_bits x) ≡ take k (low_bits w) → (i : ℕ)
      → parity (check_row k cols i) (low_bits x) ≡ (parity (taps i 0 cols) (take k (low_bits w)) + (get_or x (k + i) 0 + bit_before k i x)) % 2
  row_low x e i =
      row-message k cols size i (low_bits x) (take k (low_bits w)) e
      ∙ rw (low_at x (k + i), before-low k i x) (odd-each _ _ _ _ refl (odd-each _ _ _ _ (omega arith) (omega arith)))

  row_apart : (i : ℕ) → parity (check_row k cols i) (low_bits u) ≡ 0 → parity (check_row k cols i) (low_bits w) ≡ apart k i u w
  unfolding apart
  row_apart i z =
      row_low w refl i ∙ odd-apart _ _ _ (sym (row_low u same i) ∙ z) ∙ ap (λ (n : ℕ). n % 2) (omega arith)

  rows_apart_lem : (n i : ℕ) → count (check_rows k cols i n) (low_bits u) ≡ 0 → count (check_rows k cols i n) (low_bits w) ≡ rows_apart k i n u w
  unfolding check_rows count rows_apart
  rows_apart_lem zero i z = refl
  rows_apart_lem (suc n) i z = omega (arith, row_apart i (omega arith), rows_apart_lem n (suc i) (omega arith))

pub recount : (c : Code) (w : List ℕ) → block_length c ≤ length w
    → rows_apart c.k 0 c.m (encoded c.m (columns c) (take c.k w)) w ≡ count_masked 1 (checks c) w
unfolding checks encoded
recount c w h =
    let message = take c.k w in
    let long : length message ≡ c.k = length-take-le c.k w (omega arith) in
    let size : length (columns c) ≤ c.k = omega (arith, columns-length c) in
    let ps = parity_bits (columns c) (low_bits message) 0 c.m 0 in
    let same : take c.k (low_bits (message ++ ps)) ≡ take c.k (low_bits w) =
    rw (low_append message ps) (take_at (low_bits message) (low_bits ps) c.k (low-length message ∙ long) ∙ low-take c.k w) in
    sym (low_count (checks c) w ∙ rows_apart_lem c.k (columns c) size (message ++ ps) w same c.m 0 (encode-count c.k c.m (columns c) size message long))

-- as the code finds it
pub recounted : (c : Code) (k m r : ℕ) (u w : List ℕ) → k ≡ c.k → m ≡ c.m → u ≡ encoded c.m (columns c) (take k w) → block_length c ≤ length w
    → r ≡ rows_apart k 0 m u w → r ≡ count_masked 1 (checks c) w
recounted c k m r u w e f g h t =
    let u-is : u ≡ encoded c.m (columns c) (take c.k w) = g ∙ rw e in
    t ∙ rw (e, f, u-is) (recount c w h)

pub rows_few : (code : ℕ) → (code_of code).m < 65536
rows_few zero = omega arith
rows_few (suc zero) = omega arith
rows_few (suc (suc n)) = omega arith
