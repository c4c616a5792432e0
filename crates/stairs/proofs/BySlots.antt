-- A staircase code's rows by slots, for any k, width and m: every row has width + 2 entries but row 0, which lacks the last; parity bit i has its edges in
-- row i, next to last, and in row i + 1, last. By induction over the rows. Assumes nothing.
use mathlib.Core.Path.{◌≡◌, refl, sym, ap, ◌∙◌}
use mathlib.Core.Bool.{Bool, true, false, cond}
use mathlib.Core.List.{List, [], ◌∷◌, ◌++◌, map, map-append}
use Prim.Native.Nat.{ℕ, zero, suc, ◌+◌, ◌-◌, ◌*◌, ◌<◌, ◌≤◌}
use native.Mathlib.Nat.{add-zero, add-suc, zero-add, suc-mul}
use native.Mathlib.Omega.{arith}
use borrow.Author.Tests.{eq-eqb, ne_eqb, lt-ltb, le-ltb}
use lib.Dec.{eqb, ltb}
use lib.ListN.{length, get_or, drop, length-append, length-drop}
use lib.Seq.{length-take-le}
use Rattle.tanner.specs.Checks.{Checks}
use Rattle.tanner.specs.Flat.{joined, places}
use Rattle.lists.specs.Below.{Below}
use Rattle.lists.proofs.Below.{below-part}
use Rattle.tanner.proofs.Places.{places_append}
use Rattle.slots.specs.Layout.{row, Slotted, slot_from, slot_edges, pads_from, pad_places, parity_places}
use Rattle.staircase.specs.Staircase.{parity_entries}
use Rattle.staircase.specs.Shape.{taps_at, stair_row, stair_rows, stairs}
use Rattle.stairs.proofs.Rows.{row_fits}

-- ---- a position's places in a list

places-none : (k p e : ℕ) (xs : List ℕ) → k ≤ p → Below k xs → places p e xs ≡ []
unfolding places Below
places-none k p e [] h low = refl
places-none k p e (x ∷ xs) h low =
    let first : x < k = low 0 (omega arith) in
    rw (ne_eqb x p (λ q. omega arith)) (places-none k p (suc e) xs h (λ j l. low (suc j) (omega arith)))

-- ---- the edges of a position, row by row

module _ (m p : ℕ) where
  later_at : (r : List ℕ) (rs : Checks) (c e : ℕ) → slot_from m c (r ∷ rs) (length r + e) ≡ slot_from m (suc c) rs e
  unfolding slot_from
  later_at r rs c e =
      let l : length r + e - length r ≡ e = omega arith in
      rw (le-ltb (length r + e) (length r) (omega arith), l)

  here-at : (r : List ℕ) (rs : Checks) (c e : ℕ) → e < length r → slot_from m c (r ∷ rs) e ≡ e * m + c
  unfolding slot_from
  here-at r rs c e h = rw (lt-ltb e (length r) h)

  edges_later : (r : List ℕ) (rs : Checks) (c e : ℕ) (xs : List ℕ)
      → map (slot_from m c (r ∷ rs)) (places p (length r + e) xs) ≡ map (slot_from m (suc c) rs) (places p e xs)
  unfolding places
  edges_later r rs c e [] = refl
  edges_later r rs c e (x ∷ xs) = by (eqb x p) (rw add-suc at (edges_later r rs c (suc e) xs))
    where
      by : (t : Bool) → map (slot_from m c (r ∷ rs)) (places p (suc (length r + e)) xs) ≡ map (slot_from m (suc c) rs) (places p (suc e) xs)
          → map (slot_from m c (r ∷ rs)) (cond t ((length r + e) ∷ places p (suc (length r + e)) xs) (places p (suc (length r + e)) xs))
          ≡ map (slot_from m (suc c) rs) (cond t (e ∷ places p (suc e) xs) (places p (suc e) xs))
      by true q = rw (later_at r rs c e, q)
      by false q = q

  edges-here : (r : List ℕ) (rs : Checks) (c e : ℕ) (xs : List ℕ) → e + length xs ≤ length r
      → map (slot_from m c (r ∷ rs)) (places p e xs) ≡ map (λ j. j * m + c) (places p e xs)
  unfolding places
  edges-here r rs c e [] h = refl
  edges-here r rs c e (x ∷ xs) h = by (eqb x p) (edges-here r rs c (suc e) xs (omega arith))
    where
      by : (t : Bool) → map (slot_from m c (r ∷ rs)) (places p (suc e) xs) ≡ map (λ j. j * m + c) (places p (suc e) xs)
          → map (slot_from m c (r ∷ rs)) (cond t (e ∷ places p (suc e) xs) (places p (suc e) xs)) ≡ map (λ j. j * m + c)
          (cond t (e ∷ places p (suc e) xs) (places p (suc e) xs))
      by true q = rw (here-at r rs c e (omega arith), q)
      by false q = q

  row_edges : (r : List ℕ) (rs : Checks) (c : ℕ)
      → map (slot_from m c (r ∷ rs)) (places p 0 (joined (r ∷ rs)))
      ≡ map (λ j. j * m + c) (places p 0 r) ++ map (slot_from m (suc c) rs) (places p 0 (joined rs))
  unfolding joined
  row_edges r rs c =
      let n : 0 + length r ≡ length r + 0 = omega arith in
      ap (map (slot_from m c (r ∷ rs))) (places_append p 0 r (joined rs) ∙ ap (λ (i : ℕ). places p 0 r ++ places p i (joined rs)) n)
      ∙ map-append (slot_from m c (r ∷ rs)) (places p 0 r) (places p (length r + 0) (joined rs))
      ∙ rw (edges-here r rs c 0 r (omega arith), edges_later r rs c 0 (joined rs))

-- ---- the rows

module _ (k width m : ℕ) (table : List ℕ) (size : length table ≡ m * width) where
  rows-count : (i n : ℕ) → length (stair_rows k width table i n) ≡ n
  unfolding stair_rows
  rows-count i zero = refl
  rows-count i (suc n) = ap suc (rows-count (suc i) n)

  rows_at : (i n c : ℕ) → c < n → get_or (stair_rows k width table i n) c [] ≡ stair_row k width table (i + c)
  unfolding stair_rows
  rows_at i zero c h = absurd (omega arith)
  rows_at i (suc n) zero h = rw add-zero refl
  rows_at i (suc n) (suc c) h =
      let e : suc i + c ≡ i + suc c = omega arith in
      rw e at (rows_at (suc i) n c (omega arith))

  taps-length : (c : ℕ) → c < m → length (taps_at width table c) ≡ width
  unfolding taps_at
  taps-length c h = length-take-le width (drop (c * width) table)
      (simp length-drop (omega (arith, row_fits width m c (length table) h (omega (arith, size)))))

  entries-most : (i : ℕ) → length (parity_entries k i) ≤ 2
  unfolding parity_entries
  entries-most zero = omega arith
  entries-most (suc i) = omega arith

  entries-least : (i : ℕ) → 1 ≤ length (parity_entries k i)
  unfolding parity_entries
  entries-least zero = omega arith
  entries-least (suc i) = omega arith

  row-length : (c : ℕ) → c < m → length (row (stairs k width m table) c) ≡ width + length (parity_entries k c)
  row-length c h =
      let e : row (stairs k width m table) c ≡ stair_row k width table c = rw zero-add at (rows_at 0 m c h) in
      ap length e ∙ length-append (taps_at width table c) (parity_entries k c) ∙ ap (λ (n : ℕ). n + length (parity_entries k c)) (taps-length c h)

  pub stairs-slotted : Slotted (stairs k width m table) m (width + 2)
  stairs-slotted = record {
    count = rows-count 0 m;
    most = λ c h. omega (arith, row-length c h, entries-most c);
    least = λ c h. omega (arith, row-length c h, entries-least c);
  }

  -- the pad of row 0 is the only one
  no_pads : (n i : ℕ) → suc i + n ≤ m → pads_from m (width + 2) (suc i) (stair_rows k width table (suc i) n) ≡ []
  unfolding pads_from stair_rows parity_entries
  no_pads zero i h = refl
  no_pads (suc n) i h =
      let e : length (stair_row k width table (suc i)) ≡ width + 2 = simp length-append (omega (arith, taps-length (suc i) (omega arith))) in
      rw (le-ltb (length (stair_row k width table (suc i))) (width + 2) (omega (arith, e))) (no_pads n (suc i) (omega arith))

  first-pad : (n : ℕ) → 0 < n → n ≤ m → pads_from m (width + 2) 0 (stair_rows k width table 0 n) ≡ ((width + 1) * m) ∷ []
  unfolding pads_from stair_rows parity_entries
  first-pad zero p l = absurd (omega arith)
  first-pad (suc n) p l =
      let e : length (stair_row k width table 0) ≡ width + 1 = simp length-append (omega (arith, taps-length 0 (omega arith))) in
      rw (lt-ltb (length (stair_row k width table 0)) (width + 2) (omega (arith, e)), no_pads n 0 (omega arith), e, add-zero) refl

  pub stairs-pads : 0 < m → pad_places (stairs k width m table) m (width + 2) ≡ ((width + 1) * m) ∷ []
  stairs-pads h = first-pad m h (omega arith)

  -- ---- the edges of parity bit i

  module _ (low : Below k table) (i : ℕ) where
    taps-low : (c : ℕ) → Below k (taps_at width table c)
    unfolding taps_at
    taps-low c =
        let e : c * width + width - c * width ≡ width = omega arith in
        rw e at (below-part k table (c * width) (c * width + width) low)

    entries : (c : ℕ) → c < m → places (k + i) 0 (stair_row k width table c) ≡ places (k + i) width (parity_entries k c)
    entries c h =
        places_append (k + i) 0 (taps_at width table c) (parity_entries k c)
        ∙ rw (places-none k (k + i) 0 (taps_at width table c) (omega arith) (taps-low c), zero-add, taps-length c h) refl

    own_row : (j : ℕ) → places (k + j) width (parity_entries k j) ≡ width ∷ []
    unfolding places parity_entries
    own_row zero = rw (eq-eqb k (k + 0) (omega arith)) refl
    own_row (suc j) = rw (eq-eqb (k + suc j) (k + suc j) refl, ne_eqb (k + j) (k + suc j) (λ q. omega arith)) refl

    next_row : places (k + i) width (parity_entries k (suc i)) ≡ suc width ∷ []
    unfolding places parity_entries
    next_row = rw (ne_eqb (k + suc i) (k + i) (λ q. omega arith), eq-eqb (k + i) (k + i) refl) refl

    no_row : (c : ℕ) → (c ≡ i → ⊥) → (c ≡ suc i → ⊥) → places (k + i) width (parity_entries k c) ≡ []
    unfolding places parity_entries
    no_row zero p q = rw (ne_eqb k (k + i) (λ e. p (omega arith))) refl
    no_row (suc c) p q = rw (ne_eqb (k + suc c) (k + i) (λ e. p (omega arith)), ne_eqb (k + c) (k + i) (λ e. q (omega arith))) refl

    abbrev edges_from : ℕ → ℕ → List ℕ
    edges_from c n = map (slot_from m c (stair_rows k width table c n)) (places (k + i) 0 (joined (stair_rows k width table c n)))

    more : (c n : ℕ) → c < m → edges_from c (suc n) ≡ map (λ j. j * m + c) (places (k + i) width (parity_entries k c)) ++ edges_from (suc c) n
    unfolding stair_rows
    more c n h =
        row_edges m (k + i) (stair_row k width table c) (stair_rows k width table (suc c) n) c
        ∙ ap (λ (l : List ℕ). map (λ j. j * m + c) l ++ edges_from (suc c) n) (entries c h)

    none_left : (c : ℕ) → edges_from c 0 ≡ []
    unfolding stair_rows joined places
    none_left c = refl

    after : (n c : ℕ) → suc i < c → c + n ≤ m → edges_from c n ≡ []
    after zero c h l = none_left c
    after (suc n) c h l = more c n (omega arith) ∙ rw (no_row c (λ e. omega arith) (λ e. omega arith)) (after n (suc c) (omega arith) (omega arith))

    -- from the row after its own
    abbrev next_of : ℕ → List ℕ
    next_of zero = []
    next_of (suc n) = (suc width * m + suc i) ∷ []

    after-own : (n : ℕ) → suc i + n ≤ m → edges_from (suc i) n ≡ next_of n
    after-own zero l = none_left (suc i)
    after-own (suc n) l = more (suc i) n (omega arith) ∙ rw (next_row, after n (suc (suc i)) (omega arith) (omega arith)) refl

    own : (n : ℕ) → i + suc n ≤ m → edges_from i (suc n) ≡ (width * m + i) ∷ next_of n
    own n l = more i n (omega arith) ∙ rw (own_row i, after-own n (omega arith)) refl

    up_to : (j c n : ℕ) → c + j ≡ i → j + suc n + c ≤ m → edges_from c (j + suc n) ≡ (width * m + i) ∷ next_of n
    up_to zero c n e l =
        let s : c ≡ i = omega arith in
        let z : 0 + suc n ≡ suc n = omega arith in
        rw (s, z) (own n (omega arith))
    up_to (suc j) c n e l =
        let s : suc j + suc n ≡ suc (j + suc n) = omega arith in
        rw s (more c (j + suc n) (omega arith) ∙ rw (no_row c (λ q. omega arith) (λ q. omega arith)) (up_to j (suc c) n (omega arith) (omega arith)))

    pub stairs-edges : i < m → slot_edges (stairs k width m table) m (k + i) ≡ parity_places (width * m) m i
    unfolding parity_places
    stairs-edges h = all (m - suc i) (omega arith)
      where
        all : (n : ℕ) → i + suc n ≡ m → edges_from 0 m ≡ cond (ltb (i + 1) m) ((width * m + i) ∷ ((width * m + m + (i + 1)) ∷ [])) ((width * m + i) ∷ [])
        all zero e =
            let t : ltb (i + 1) m ≡ false = le-ltb (i + 1) m (omega arith) in
            rw t (ap (edges_from 0) (sym e) ∙ up_to i 0 0 (omega arith) (omega arith))
        all (suc n) e =
            let t : ltb (i + 1) m ≡ true = lt-ltb (i + 1) m (omega arith) in
            let s : suc width * m + suc i ≡ width * m + m + (i + 1) = omega (arith, suc-mul width m) in
            rw (t, ← s) (ap (edges_from 0) (sym e) ∙ up_to i 0 (suc n) (omega arith) (omega arith))
