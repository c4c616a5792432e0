-- A staircase word of count 0 whose parity bits are lost is filled whole, for any message columns. The first parity bit that stayed unknown would be
-- the one unknown of its row, since its row's other positions lie below it; so none stays so, and each known bit is the word's. Assumes nothing.
use mathlib.Core.Path.{◌≡◌, sym, ap, ◌∙◌}
use mathlib.Core.List.{List, [], ◌∷◌, ◌++◌}
use Prim.Native.Nat.{ℕ, zero, suc, ◌+◌, ◌-◌, ◌<◌, ◌≤◌}
use native.Mathlib.Nat.{add-zero}
use native.Mathlib.Decide.{dec_lt}
use native.Mathlib.Omega.{arith}
use lib.ListN.{length, get_or, take, replicate, length-append, length-replicate, get_or-replicate, get_or-append}
use lib.Seq.{get_or-take, get_or-append-add, length-take-le, ext_get_or}
use Rattle.construction.specs.Codes.{Code, block_length}
use Rattle.tanner.specs.Checks.{Word, count}
use Rattle.lists.specs.Below.{Below}
use Rattle.staircase.specs.Staircase.{taps, parity_entries, check_row, checks_of}
use Rattle.staircase.specs.Codes as staircase
use Rattle.staircase.proofs.Positions.{taps_below, row_at}
use Rattle.staircase.proofs.EdgeCount.{columns-length}
use Rattle.filling.specs.Filling.{filled_word}
use Rattle.filling.specs.Promise.{named, OnlyUnknown, Agrees, Fills}
use Rattle.filling.proofs.Named.{named_none, named_head, named_append, named_other, named_past}
use Rattle.erasure.proofs.Codes.{columns-once}
use Rattle.filling.proofs.Laws.{fills}

-- the first k bits of a word, and m unknown ones
abbrev pub erased : ℕ → ℕ → Word → Word
erased k m v = take k v ++ replicate m 2

-- ---- a row names its own parity position, and none above it

entries_own : (k i : ℕ) → 0 < named (k + i) (parity_entries k i)
unfolding parity_entries
entries_own k zero = rw add-zero (named_head k [])
entries_own k (suc i) = named_head (k + suc i) ((k + i) ∷ [])

entries-above : (k i p : ℕ) → k + i < p → named p (parity_entries k i) ≡ 0
unfolding parity_entries
entries-above k zero p h = named_other p k [] (λ e. omega arith) ∙ named_none p
entries-above k (suc i) p h =
    named_other p (k + suc i) _ (λ e. omega arith) ∙ named_other p (k + i) [] (λ e. omega arith) ∙ named_none p

module _ (k : ℕ) (cols : List (List ℕ)) (size : length cols ≤ k) where
  row-own : (i : ℕ) → 0 < named (k + i) (check_row k cols i)
  unfolding check_row
  row-own i = omega (arith, named_append (k + i) (taps i 0 cols) (parity_entries k i), entries_own k i)

  row-above : (i p : ℕ) → k + i < p → named p (check_row k cols i) ≡ 0
  unfolding check_row
  row-above i p h =
      named_append p (taps i 0 cols) (parity_entries k i)
      ∙ omega (arith, entries-above k i p h, named_past k p (taps i 0 cols) (taps_below k i 0 cols (omega arith)) (omega arith))

-- ---- the erased word

module _ (k m : ℕ) (v : Word) (long : length v ≡ k + m) where
  front : length (take k v) ≡ k
  front = length-take-le k v (omega arith)

  erased-length : length (erased k m v) ≡ k + m
  erased-length = omega (arith, length-append (take k v) (replicate m 2), front, length-replicate {A = ℕ} m 2)

  erased-known : (p : ℕ) → p < k → get_or (erased k m v) p 0 ≡ get_or v p 0
  erased-known p h = get_or-append (take k v) (replicate m 2) 0 p (omega (arith, front)) ∙ get_or-take k v p 0 h

  erased-unknown : (p : ℕ) → k ≤ p → p < k + m → get_or (erased k m v) p 0 ≡ 2
  erased-unknown p low high =
      let place : p ≡ length (take k v) + (p - k) = omega (arith, front) in
      ap (λ (x : ℕ). get_or (erased k m v) x 0) place ∙ get_or-append-add (take k v) (replicate m 2) (p - k) 0 ∙ get_or-replicate m (p - k) 2 0 (omega arith)

  erased-agrees : Below 2 v → Agrees (erased k m v) v
  erased-agrees bits = record {
    long = long ∙ sym erased-length;
    bits = bits;
    known = λ p h known. by p (omega (arith, erased-length)) known (dec_lt p k);
  }
    where
      by : (p : ℕ) → p < k + m → (get_or (erased k m v) p 0 ≡ 2 → ⊥) → Dec (p < k) → get_or (erased k m v) p 0 ≡ get_or v p 0
      by p h known (yes l) = erased-known p l
      by p h known (no l) = absurd (known (erased-unknown p (omega arith) h))

-- ---- it is filled whole

module _ (k m : ℕ) (cols : List (List ℕ)) (size : length cols ≤ k) (v : Word) (long : length v ≡ k + m) (bits : Below 2 v) where
  all : Fills (checks_of k m cols) (erased k m v)
  all = fills (checks_of k m cols) (erased k m v) (columns-once k cols size m)

  message-known : (p : ℕ) → p < k → get_or (filled_word (checks_of k m cols) (erased k m v)) p 0 ≡ 2 → ⊥
  unfolding Below
  message-known p h e =
      let same = erased-known k m v long p h in
      let low = bits p (omega arith) in
      let kept = all.known p (λ u. omega (arith, same, low)) in
      omega (arith, same, low, kept)

  own-only : (i : ℕ) → i < m → ((p : ℕ) → p < k + i → get_or (filled_word (checks_of k m cols) (erased k m v)) p 0 ≡ 2 → ⊥)
      → get_or (filled_word (checks_of k m cols) (erased k m v)) (k + i) 0 ≡ 2
      → OnlyUnknown (check_row k cols i) (filled_word (checks_of k m cols) (erased k m v)) (k + i)
  own-only i h below e = record {
    covered = row-own k cols size i;
    unknown = e;
    alone = λ q named-there u. by q named-there u (dec_lt q (k + i)) (dec_lt (k + i) q);
  }
    where
      by : (q : ℕ) → 0 < named q (check_row k cols i) → get_or (filled_word (checks_of k m cols) (erased k m v)) q 0 ≡ 2 → Dec (q < k + i) → Dec (k + i < q)
          → q ≡ k + i
      by q there u (yes l) d = absurd (below q l u)
      by q there u (no l) (yes g) = absurd (omega (arith, row-above k cols size i q g))
      by q there u (no l) (no g) = omega arith

  known-to : (i : ℕ) → i ≤ m → (p : ℕ) → p < k + i → get_or (filled_word (checks_of k m cols) (erased k m v)) p 0 ≡ 2 → ⊥
  known-to zero h p l e = message-known p (omega arith) e
  known-to (suc i) h p l e = by (dec_lt p (k + i)) (known-to i (omega arith))
    where
      by : Dec (p < k + i) → ((q : ℕ) → q < k + i → get_or (filled_word (checks_of k m cols) (erased k m v)) q 0 ≡ 2 → ⊥) → ⊥
      by (yes g) below = below p g e
      by (no g) below =
          let here : p ≡ k + i = omega arith in
          all.none_left i (k + i) (rw (row_at k m cols i (omega arith)) (own-only i (omega arith) below (rw here at e)))

  pub columns-back : count (checks_of k m cols) v ≡ 0 → filled_word (checks_of k m cols) (erased k m v) ≡ v
  columns-back z =
      let after = all.every_word v (erased-agrees k m v long bits) z in
      ext_get_or 0 (filled_word (checks_of k m cols) (erased k m v)) v (sym after.long)
      (λ p h. after.known p h (known-to m (omega arith) p (omega (arith, after.long))))

-- each of the three codes
pub filled-back : (c : Code) (v : Word) → length v ≡ block_length c → Below 2 v → count (staircase.checks c) v ≡ 0
    → filled_word (staircase.checks c) (erased c.k c.m v) ≡ v
unfolding staircase.checks
filled-back c v long bits z = columns-back c.k c.m (staircase.columns c) (omega (arith, columns-length c)) v long bits z
