-- The encoding, for any message columns: filling in the parity bits one check after another gives it, and a word of N bits has count 0
-- exactly when it is the encoding of its first K bits. Inductions over the rows, from what one row's parity is.
use mathlib.Core.Path.{◌≡◌, refl, sym, ap, ◌∙◌}
use mathlib.Core.List.{List, [], ◌∷◌, ◌++◌, append_assoc}
use Prim.Native.Nat.{ℕ, zero, suc, ◌+◌, ◌%◌, ◌≤◌, ◌<◌}
use native.Mathlib.Nat.{add-zero, add-suc}
use native.Mathlib.Omega.{arith}
use lib.ListN.{length, get_or, take, drop, set, length-append, length-drop, take-append-drop, get_or-append}
use lib.Seq.{take_at, set_at, get_or_at, get_or-append-add, length-take-le}
use Rattle.tanner.specs.Checks.{Word, parity, count, low_bits}
use Rattle.tanner.specs.Masked.{count_masked}
use Rattle.lists.specs.Below.{Below}
use Rattle.tanner.proofs.Count.{low-length, low_append, parity_bit, parity-front, low_count, bits-low}
use Rattle.lists.proofs.Below.{below_none, below-cons, below-first, below_rest, below-append, below_left, below_right}
use Rattle.staircase.specs.Staircase.{taps, parity_entries, check_row, check_rows, checks_of, parity_bits, encoded}
pub use Rattle.staircase.proofs.Positions.{checks-length}
use Rattle.staircase.proofs.Positions.{taps_below}
use Rattle.stairs.specs.Stairs.{bit_before}
use Rattle.stair_parity.specs.Filling.{filled}

-- ---- the parity of one row
parity_append : (xs ys : List ℕ) (w : Word) → parity (xs ++ ys) w ≡ (parity xs w + parity ys w) % 2
unfolding parity
parity_append [] ys w = omega (arith, parity_bit ys w)
parity_append (x ∷ xs) ys w = omega (arith, parity_append xs ys w)

entries-parity : (k i : ℕ) (w : Word) → parity (parity_entries k i) w ≡ (get_or w (k + i) 0 + bit_before k i w) % 2
unfolding parity parity_entries bit_before
entries-parity k zero w = rw (add-zero k) (omega arith)
entries-parity k (suc i) w = omega arith

row-parity : (k : ℕ) (cols : List (List ℕ)) (i : ℕ) (w : Word)
    → parity (check_row k cols i) w ≡ (parity (taps i 0 cols) w + (get_or w (k + i) 0 + bit_before k i w)) % 2
unfolding check_row
row-parity k cols i w = omega (arith, parity_append (taps i 0 cols) (parity_entries k i) w, entries-parity k i w)

-- ---- what the parity of a row is, in a word that starts with the message
module _ (k : ℕ) (cols : List (List ℕ)) (size : length cols ≤ k) where
  pub row-message : (i : ℕ) (w message : Word) → take k w ≡ message
      → parity (check_row k cols i) w ≡ (parity (taps i 0 cols) message + (get_or w (k + i) 0 + bit_before k i w)) % 2
  row-message i w message e = row-parity k cols i w ∙ rw (← parity-front k (taps i 0 cols) w (taps_below k i 0 cols (omega arith)), e)

-- the last of a list of bits, or 0
unfoldable pub last_of : List ℕ → ℕ
last_of [] = 0
last_of (x ∷ xs) = get_or (x ∷ xs) (length xs) 0

last_snoc : (xs : List ℕ) (x : ℕ) → last_of (xs ++ (x ∷ [])) ≡ x
unfolding last_of
last_snoc [] x = refl
last_snoc (y ∷ ys) x =
    let e : length (ys ++ (x ∷ [])) ≡ suc (length ys) = simp length-append (omega arith) in
    rw e (get_or_at ys x [] 0 (length ys) refl)

before_is : (k i : ℕ) (message ps qs : List ℕ) → length message ≡ k → length ps ≡ i → bit_before k i (message ++ (ps ++ qs)) ≡ last_of ps
unfolding bit_before last_of
before_is k zero message [] qs e f = refl
before_is k (suc i) message [] qs e f = absurd (omega arith)
before_is k zero message (x ∷ xs) qs e f = absurd (omega arith)
before_is k (suc i) message (x ∷ xs) qs e f =
    let n : i ≡ length xs = omega arith in
    rw (← e, n) (get_or-append-add message ((x ∷ xs) ++ qs) (length xs) 0 ∙ get_or-append (x ∷ xs) qs 0 (length xs) (omega arith))

at_place : (k i : ℕ) (message ps : List ℕ) (x : ℕ) (qs : List ℕ) → length message ≡ k → length ps ≡ i → get_or (message ++ (ps ++ (x ∷ qs))) (k + i) 0 ≡ x
at_place k i message ps x qs e f =
    rw (← append_assoc message ps (x ∷ qs)) (get_or_at (message ++ ps) x qs 0 (k + i) (simp length-append (omega arith)))

set-place : (k i : ℕ) (message ps : List ℕ) (x y : ℕ) (qs : List ℕ) → length message ≡ k → length ps ≡ i
    → set (message ++ (ps ++ (x ∷ qs))) (k + i) y ≡ message ++ (ps ++ (y ∷ qs))
set-place k i message ps x y qs e f =
    rw (← append_assoc message ps (x ∷ qs), ← append_assoc message ps (y ∷ qs)) (set_at (message ++ ps) x qs y (k + i) (simp length-append (omega arith)))

low-zero : (xs : List ℕ) → low_bits (0 ∷ xs) ≡ 0 ∷ low_bits xs
unfolding low_bits
low-zero xs = refl

last_bit : (ps : List ℕ) → Below 2 ps → last_of ps < 2
unfolding last_of Below
last_bit [] b = omega arith
last_bit (x ∷ xs) b = b (length xs) (omega arith)

-- ---- one row of a word: the message, the parity bits before, the row's own, and the rest
module _ (k : ℕ) (cols : List (List ℕ)) (size : length cols ≤ k) (message : Word) (long : length message ≡ k) where
  row_is : (i : ℕ) (ps : List ℕ) (x : ℕ) (qs : List ℕ) → length ps ≡ i
      → parity (check_row k cols i) (message ++ (ps ++ (x ∷ qs))) ≡ (parity (taps i 0 cols) message + (x + last_of ps)) % 2
  row_is i ps x qs e =
      row-message k cols size i (message ++ (ps ++ (x ∷ qs))) message (take_at message _ k long)
      ∙ rw (at_place k i message ps x qs long e, before_is k i message ps (x ∷ qs) long e)

  -- ---- count 0
  count-zero : (n i : ℕ) (ps qs : List ℕ) → length ps ≡ i → length qs ≡ n → Below 2 ps → Below 2 qs
      → count (check_rows k cols i n) (message ++ (ps ++ qs)) ≡ 0 → qs ≡ parity_bits cols message i n (last_of ps)
  unfolding check_rows count parity_bits
  count-zero zero i ps [] e f bp bq z = refl
  count-zero zero i ps (x ∷ qs) e f bp bq z = absurd (omega arith)
  count-zero (suc n) i ps [] e f bp bq z = absurd (omega arith)
  count-zero (suc n) i ps (x ∷ qs) e f bp bq z =
      let t = parity (taps i 0 cols) message in
      let bit : x < 2 = below-first 2 x qs bq in
      let own = row_is i ps x qs e in
      let here : x ≡ (t + last_of ps) % 2 = omega (arith, own, z, last_bit ps bp, parity_bit (taps i 0 cols) message) in
      let more : count (check_rows k cols (suc i) n) (message ++ ((ps ++ (x ∷ [])) ++ qs)) ≡ 0 = rw (append_assoc ps (x ∷ []) qs) (omega (arith, z)) in
      let rest =
      count-zero n (suc i) (ps ++ (x ∷ [])) qs (simp length-append (omega arith)) (omega arith)
      (below-append 2 ps (x ∷ []) bp (below-cons 2 x [] bit (below_none 2))) (below_rest 2 x qs bq) more in
      rw (← here) (ap (λ (l : List ℕ). x ∷ l) (rest ∙ rw (last_snoc ps x)))

  count-parity : (n i : ℕ) (ps : List ℕ) → length ps ≡ i → Below 2 ps
      → count (check_rows k cols i n) (message ++ (ps ++ parity_bits cols message i n (last_of ps))) ≡ 0
  unfolding check_rows count parity_bits
  count-parity zero i ps e b = refl
  count-parity (suc n) i ps e b =
      let t = parity (taps i 0 cols) message in
      let x = (t + last_of ps) % 2 in
      let qs = parity_bits cols message (suc i) n x in
      let own = row_is i ps x qs e in
      let rest =
      count-parity n (suc i) (ps ++ (x ∷ [])) (simp length-append (omega arith))
      (below-append 2 ps (x ∷ []) b (below-cons 2 x [] (omega arith) (below_none 2))) in
      let same : message ++ ((ps ++ (x ∷ [])) ++ qs) ≡ message ++ (ps ++ (x ∷ qs)) = rw (append_assoc ps (x ∷ []) qs) in
      let more : count (check_rows k cols (suc i) n) (message ++ (ps ++ (x ∷ qs))) ≡ 0 = rw (last_snoc ps x, same) at rest in
      omega (arith, own, more, last_bit ps b, parity_bit (taps i 0 cols) message)

  pub parity-bits-below : (n i p : ℕ) → Below 2 (parity_bits cols message i n p)
  unfolding parity_bits
  parity-bits-below zero i p = below_none 2
  parity-bits-below (suc n) i p = below-cons 2 _ _ (omega arith) (parity-bits-below n (suc i) _)

-- ---- the theorem: for any message columns, a word of N bits has count 0 exactly when it is the encoding of its first K bits
module _ (k m : ℕ) (cols : List (List ℕ)) (size : length cols ≤ k) where
  pub count-encoded : (message : Word) → length message ≡ k → Below 2 message → count (checks_of k m cols) (encoded m cols message) ≡ 0
  unfolding encoded last_of
  count-encoded message long bits = rw (bits-low message bits) (count-parity k cols size message long m 0 [] refl (below_none 2))

  pub zero-count-encoded : (w : Word) → length w ≡ k + m → Below 2 w → count (checks_of k m cols) w ≡ 0 → w ≡ encoded m cols (take k w)
  unfolding encoded last_of
  zero-count-encoded w long bits z =
      let e : length (take k w) ≡ k = length-take-le k w (omega arith) in
      let whole : take k w ++ drop k w ≡ w = take-append-drop k w in
      let front : Below 2 (take k w) = below_left 2 (take k w) (drop k w) (rw whole bits) in
      let back : Below 2 (drop k w) = below_right 2 (take k w) (drop k w) (rw whole bits) in
      let parts = count-zero k cols size (take k w) e m 0 [] (drop k w) refl (simp length-drop (omega arith)) (below_none 2) back (rw whole z) in
      rw (bits-low (take k w) front) (sym whole ∙ ap (λ (l : List ℕ). take k w ++ l) parts)

  -- encode, then count: 0, whatever the message bytes
  pub encode-count : (message : List ℕ) → length message ≡ k → count (checks_of k m cols) (low_bits (encoded m cols message)) ≡ 0
  unfolding encoded last_of
  encode-count message long =
      let bits = low_bits message in
      let n : length bits ≡ k = low-length message ∙ long in
      let ps = parity_bits cols bits 0 m 0 in
      rw (low_append message ps, bits-low ps (parity-bits-below k cols size bits n m 0 0)) (count-parity k cols size bits n m 0 [] refl (below_none 2))

-- ---- filling in the parity bits
module _ (k : ℕ) (cols : List (List ℕ)) (size : length cols ≤ k) (message : List ℕ) (long : length message ≡ k) where
  own-count : (i : ℕ) (ps junk : List ℕ) → length ps ≡ i → Below 2 ps
      → count_masked 1 (check_row k cols i ∷ []) (message ++ (ps ++ (0 ∷ junk))) ≡ (parity (taps i 0 cols) (low_bits message) + last_of ps) % 2
  unfolding count
  own-count i ps junk e b =
      low_count (check_row k cols i ∷ []) (message ++ (ps ++ (0 ∷ junk)))
      ∙ rw (low_append message (ps ++ (0 ∷ junk)), low_append ps (0 ∷ junk), bits-low ps b, low-zero junk)
      (omega (arith, row_is k cols size (low_bits message) (low-length message ∙ long) i ps 0 (low_bits junk) e))

  fill-from : (n i : ℕ) (ps junk : List ℕ) → length ps ≡ i → length junk ≡ n → Below 2 ps
      → filled (check_rows k cols i n) (k + i) (message ++ (ps ++ junk)) ≡ message ++ (ps ++ parity_bits cols (low_bits message) i n (last_of ps))
  unfolding filled check_rows parity_bits
  fill-from zero i ps [] e f b = refl
  fill-from zero i ps (y ∷ junk) e f b = absurd (omega arith)
  fill-from (suc n) i ps [] e f b = absurd (omega arith)
  fill-from (suc n) i ps (y ∷ junk) e f b =
      let x = (parity (taps i 0 cols) (low_bits message) + last_of ps) % 2 in
      let rest =
      fill-from n (suc i) (ps ++ (x ∷ [])) junk (simp length-append (omega arith)) (omega arith)
      (below-append 2 ps (x ∷ []) b (below-cons 2 x [] (omega arith) (below_none 2))) in
      let row = check_row k cols i in
      let w = message ++ (ps ++ (y ∷ junk)) in
      let own : count_masked 1 (row ∷ []) (set w (k + i) 0) ≡ x =
      ap (count_masked 1 (row ∷ [])) (set-place k i message ps y 0 junk long e) ∙ own-count i ps junk e b in
      let stored : set w (k + i) (count_masked 1 (row ∷ []) (set w (k + i) 0)) ≡ message ++ ((ps ++ (x ∷ [])) ++ junk) =
      ap (set w (k + i)) own ∙ set-place k i message ps y x junk long e ∙ ap (λ (l : List ℕ). message ++ l) (sym (append_assoc ps (x ∷ []) junk))
      in
      ap (filled (check_rows k cols (suc i) n) (suc (k + i))) stored ∙ (rw (add-suc k i) at rest)
      ∙ rw (last_snoc ps x, append_assoc ps (x ∷ []) (parity_bits cols (low_bits message) (suc i) n x))

  pub fill-all : (m : ℕ) (junk : List ℕ) → length junk ≡ m → filled (checks_of k m cols) k (message ++ junk) ≡ encoded m cols message
  unfolding encoded last_of
  fill-all m junk f = rw add-zero at (fill-from m 0 [] junk refl f (below_none 2))
