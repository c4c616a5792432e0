-- The four codes name no position twice in a check, so that all that N7 promises holds of each. A staircase row lists message columns ascending,
-- and then its parity columns, whatever the columns are; for (174,91) it is what the tables' agreement says. Assumes nothing.
use mathlib.Core.Path.{◌≡◌, ◌∙◌}
use mathlib.Core.Bool.{Bool, true, false, cond}
use mathlib.Core.List.{List, [], ◌∷◌}
use Prim.Native.Nat.{ℕ, zero, suc, ◌+◌, ◌<◌, ◌≤◌}
use native.Mathlib.Decide.{dec_lt}
use native.Mathlib.Omega.{arith}
use lib.ListN.{length, get_or}
use Rattle.columns.specs.Rows.{holds}
use Rattle.construction.specs.Codes.{Code, n512r12, n576r23, n512r34}
use Rattle.tanner.specs.Checks.{Word, Checks}
use Rattle.lists.specs.Below.{Below}
use Rattle.tanner.proofs.Count.{AllBelow, none, more}
use Rattle.tanner.proofs.Flat.{all_below}
use Rattle.staircase.specs.Staircase.{taps, parity_entries, check_row, check_rows, checks_of}
use Rattle.staircase.specs.Codes as staircase
use Rattle.staircase.proofs.Positions.{taps_below}
use Rattle.staircase.proofs.EdgeCount.{columns-length}
use Rattle.code174.specs.Agreement.{times}
use Rattle.code174.specs.Code174 as code174
use Rattle.code174.proofs.Agreement.{agreed}
use Rattle.code174.proofs.Graph.{checks-low}
use Rattle.filling.specs.Promise.{named, NoneTwice, Fills}
use Rattle.numbered.specs.Codes.{checks_by}
use Rattle.filling.proofs.Named.{named_cons, named_none, named-fresh, named_append, named_other, named_past}
use Rattle.filling.proofs.Laws.{fills}

-- ---- the staircase codes

taps-before : (i j p : ℕ) (cols : List (List ℕ)) → p < j → named p (taps i j cols) ≡ 0
unfolding taps
taps-before i j p [] h = named_none p
taps-before i j p (c ∷ cs) h = by (holds c i) (taps-before i (suc j) p cs (omega arith))
  where
    by : (t : Bool) → named p (taps i (suc j) cs) ≡ 0 → named p (cond t (j ∷ taps i (suc j) cs) (taps i (suc j) cs)) ≡ 0
    by true z = named_other p j _ (λ e. omega arith) ∙ z
    by false z = z

taps_once : (i j p : ℕ) (cols : List (List ℕ)) → named p (taps i j cols) ≤ 1
unfolding taps
taps_once i j p [] = omega (arith, named_none p)
taps_once i j p (c ∷ cs) = by (holds c i) (taps_once i (suc j) p cs) (taps-before i (suc j) j cs (omega arith))
  where
    by : (t : Bool) → named p (taps i (suc j) cs) ≤ 1 → named j (taps i (suc j) cs) ≡ 0 → named p (cond t (j ∷ taps i (suc j) cs) (taps i (suc j) cs)) ≤ 1
    by true h z = named-fresh p j _ z h
    by false h z = h

entries_once : (k i p : ℕ) → named p (parity_entries k i) ≤ 1
unfolding parity_entries
entries_once k zero p = named-fresh p k [] (named_none k) (omega (arith, named_none p))
entries_once k (suc i) p =
    named-fresh p (k + suc i) _ (named_other (k + suc i) (k + i) [] (λ e. omega arith) ∙ named_none (k + suc i))
    (named-fresh p (k + i) [] (named_none (k + i)) (omega (arith, named_none p)))

entries_past : (k i p : ℕ) → p < k → named p (parity_entries k i) ≡ 0
unfolding parity_entries
entries_past k zero p h = named_other p k [] (λ e. omega arith) ∙ named_none p
entries_past k (suc i) p h =
    named_other p (k + suc i) _ (λ e. omega arith) ∙ named_other p (k + i) [] (λ e. omega arith) ∙ named_none p

module _ (k : ℕ) (cols : List (List ℕ)) (size : length cols ≤ k) where
  row-once : (i p : ℕ) → named p (check_row k cols i) ≤ 1
  unfolding check_row
  row-once i p = rw (named_append p (taps i 0 cols) (parity_entries k i)) (by (dec_lt p k))
    where
      by : Dec (p < k) → named p (taps i 0 cols) + named p (parity_entries k i) ≤ 1
      by (yes h) = omega (arith, taps_once i 0 p cols, entries_past k i p h)
      by (no h) = omega (arith, entries_once k i p, named_past k p (taps i 0 cols) (taps_below k i 0 cols (omega arith)) (omega arith))

  rows-once : (n i c p : ℕ) → named p (get_or (check_rows k cols i n) c []) ≤ 1
  unfolding check_rows
  rows-once zero i c p = omega (arith, named_none p)
  rows-once (suc n) i zero p = row-once i p
  rows-once (suc n) i (suc c) p = rows-once n (suc i) c p

  pub columns-once : (m : ℕ) → NoneTwice (checks_of k m cols)
  unfolding NoneTwice
  columns-once m = rows-once m 0

staircase_once : (c : Code) → NoneTwice (staircase.checks c)
unfolding staircase.checks
staircase_once c = columns-once c.k (staircase.columns c) (omega (arith, columns-length c)) c.m

-- ---- (174,91)

named-times : (p : ℕ) (c : List ℕ) → named p c ≡ times p c
unfolding times
named-times p [] = named_none p
named-times p (q ∷ qs) = named_cons p q qs ∙ rw (named-times p qs)

at_below : (n : ℕ) {cs : Checks} → AllBelow n cs → (c : ℕ) → Below n (get_or cs c [])
unfolding Below
at_below n none c = λ k h. absurd (omega arith)
at_below n (more low rest) zero = low
at_below n (more low rest) (suc c) = at_below n rest c

ft8_once : NoneTwice code174.checks
unfolding NoneTwice
ft8_once c p = by (dec_lt p 174)
  where
    by : Dec (p < 174) → named p (get_or code174.checks c []) ≤ 1
    by (yes h) = rw (named-times p (get_or code174.checks c [])) (agreed.once p h c)
    by (no h) = omega (arith, named_past 174 p (get_or code174.checks c []) (at_below 174 (all_below 174 code174.checks checks-low) c) (omega arith))

-- ---- all four

none_twice : (code : ℕ) → NoneTwice (checks_by code)
unfolding checks_by
none_twice zero = staircase_once n512r12
none_twice (suc zero) = staircase_once n576r23
none_twice (suc (suc zero)) = staircase_once n512r34
none_twice (suc (suc (suc n))) = ft8_once

-- what is promised, of the word and the list that a call of `fill_erasures` writes
pub fills_code : (code : ℕ) (w : Word) → Fills (checks_by code) w
fills_code code w = fills (checks_by code) w (none_twice code)
