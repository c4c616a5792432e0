-- A word of 174 bits has count 0 exactly when it is the encoding of its first 91 bits. Each generator row together with its own parity position is a
-- sum of checks, and each check is a sum of such rows: one test over the whole of `GENERATOR` and `NM`, computed. Assumes nothing.
use mathlib.Core.Path.{◌≡◌, refl, sym, ap, ap₂, ◌∙◌}
use mathlib.Core.Bool.{true, cond, ◌&&◌}
use mathlib.Core.List.{List, [], ◌∷◌, ◌++◌, map}
use mathlib.Mathlib.Data.Bool.Basic.{and_elim_left, and_elim_right}
use Prim.Native.Nat.{ℕ, zero, suc, ◌+◌, ◌-◌, ◌%◌, ◌^◌}
use native.Mathlib.Nat.{add-zero, add-suc}
use native.Mathlib.Omega.{arith}
use lib.Dec.{ltb}
use lib.ListN.{length, get_or, take, drop, take-append-drop, drop_of_length-le}
use lib.Seq.{drop-cons, drop_at, get_or-drop, drop-drop, length-take-le}
use Rattle.bits.specs.Bits.{bits_of, bits}
use Rattle.tanner.specs.Checks.{Word, Checks, count}
use Rattle.lists.specs.Below.{Below}
use Rattle.code174.specs.Tables.{nm, num_rows}
use Rattle.code174.specs.Code174.{rows_of_seven, checks}
use Rattle.ldpc_encoding.specs.Tables.{generator}
use Rattle.ldpc_encoding.specs.Encoding.{under, rows_of_twelve, parity_bits, encode_bits}
use Rattle.codewords.proofs.CheckSets.{check_sets}
use Rattle.ldpc_encoding.proofs.Parity.{under_bit}
use Rattle.codewords.proofs.Span.{Row, added, under-added, unit, under_unit, row_of, under-row, under-take}
use Rattle.codewords.proofs.Span.{AllEven, none, more, added_if, sum_at, empty, sums, sums_even}

-- ---- the test

-- generator rows, each together with the position of its parity bit; the first is parity bit i
unfoldable with_own : ℕ → List Row → List Row
with_own i [] = []
with_own i (g ∷ gs) = added (unit (91 + i)) g ∷ with_own (suc i) gs

-- the parity bits that a check covers, as binary digits
unfoldable parity_set : List ℕ → ℕ
parity_set [] = 0
parity_set (p ∷ ps) = cond (ltb p 91) 0 (2 ^ (p - 91)) + parity_set ps

abbrev rows : List Row
rows = with_own 0 (rows_of_twelve 83 generator)

abbrev covered : List Row
covered = map row_of checks

generator-fits : (sums check_sets rows covered && sums (map parity_set checks) covered rows) ≡ true
unfolding with_own parity_set added unit row_of added_if sum_at empty sums check_sets generator nm num_rows rows_of_seven checks rows_of_twelve bits bits_of
generator-fits = refl

rows_from-checks : sums check_sets rows covered ≡ true
rows_from-checks = and_elim_left (sums check_sets rows covered) (sums (map parity_set checks) covered rows) generator-fits

checks-from_rows : sums (map parity_set checks) covered rows ≡ true
checks-from_rows = and_elim_right (sums check_sets rows covered) (sums (map parity_set checks) covered rows) generator-fits

-- ---- count 0: each check is even

count_even : (cs : Checks) (w : Word) → count cs w ≡ 0 → AllEven w (map row_of cs)
unfolding count
count_even [] w z = none
count_even (c ∷ cs) w z = more (under-row c w ∙ omega arith) (count_even cs w (omega arith))

even_count : (cs : Checks) (w : Word) → AllEven w (map row_of cs) → count cs w ≡ 0
unfolding count
even_count [] w es = refl
even_count (c ∷ cs) w (more e es) = omega (arith, e, under-row c w, even_count cs w es)

-- ---- the encoding: each generator row is even together with its own parity bit

module _ (w : Word) where
  own_row : (i : ℕ) (g : Row) → under (added (unit (91 + i)) (take 91 g)) w ≡ (get_or w (91 + i) 0 + under (take 91 g) (take 91 w)) % 2
  own_row i g =
      under-added (unit (91 + i)) (take 91 g) w
      ∙ omega (arith, under_unit (91 + i) w, under-take 91 g w)

  abbrev parities : ℕ → List ℕ → List ℕ
  parities n g = map (λ (row : Row). under row (take 91 w)) (rows_of_twelve n g)

  even-parities : (n i : ℕ) (g : List ℕ) → 91 + i + n ≡ length w → Below 2 w → AllEven w (with_own i (rows_of_twelve n g)) → drop (91 + i) w ≡ parities n g
  unfolding with_own rows_of_twelve Below
  even-parities zero i g s b es = drop_of_length-le w {i = 91 + i} (omega arith)
  even-parities (suc n) i g s b (more e es) =
      let row = bits (take 12 g) in
      let here : get_or w (91 + i) 0 ≡ under (take 91 row) (take 91 w) =
      omega (arith, e, own_row i row, b (91 + i) (omega arith), under_bit (take 91 row) (take 91 w))
      in
      drop-cons w (91 + i) 0 (omega arith)
      ∙ ap₂ (λ (x : ℕ) (l : List ℕ). x ∷ l) here (rw (add-suc 91 i) at (even-parities n (suc i) (drop 12 g) (omega arith) b es))

  parities-even : (n i : ℕ) (g : List ℕ) → drop (91 + i) w ≡ parities n g → AllEven w (with_own i (rows_of_twelve n g))
  unfolding with_own rows_of_twelve
  parities-even zero i g e = none
  parities-even (suc n) i g e =
      let row = bits (take 12 g) in
      let first : get_or w (91 + i) 0 ≡ under (take 91 row) (take 91 w) =
      sym (rw add-zero at (get_or-drop (91 + i) w 0 0)) ∙ ap (λ (l : List ℕ). get_or l 0 0) e in
      let next : 91 + suc i ≡ 91 + i + 1 = omega arith in
      let rest : drop (91 + suc i) w ≡ parities n (drop 12 g) = ap (λ (k : ℕ). drop k w) next ∙ sym (drop-drop 1 (91 + i) w) ∙ ap (drop 1) e in
      more (own_row i row ∙ omega (arith, first)) (parities-even n (suc i) (drop 12 g) rest)

-- ---- the theorem, both ways

pub zero-count-encoded : (w : Word) → length w ≡ 174 → Below 2 w → count checks w ≡ 0 → w ≡ encode_bits (take 91 w)
unfolding encode_bits parity_bits
zero-count-encoded w size b z =
    sym (take-append-drop 91 w)
    ∙ ap (λ (l : List ℕ). take 91 w ++ l)
    (even-parities w 83 0 generator (omega arith) b (sums_even check_sets rows covered w rows_from-checks (count_even checks w z)))

pub encoded-zero-count : (w : Word) → length w ≡ 174 → w ≡ encode_bits (take 91 w) → count checks w ≡ 0
unfolding encode_bits parity_bits
encoded-zero-count w size e =
    let m = take 91 w in
    let behind : drop 91 w ≡ parity_bits m = ap (drop 91) e ∙ drop_at m (parity_bits m) 91 (length-take-le 91 w (omega arith)) in
    even_count checks w (sums_even (map parity_set checks) covered rows w checks-from_rows (parities-even w 83 0 generator behind))
