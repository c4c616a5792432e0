-- One turn of the loops over a check's positions and over the checks: what is left to do, said of the rest of the list. Assumes nothing.
use mathlib.Core.Path.{◌≡◌, sym, subst}
use mathlib.Core.List.{List, [], ◌∷◌}
use mathlib.Core.Bool.{cond}
use Prim.Native.Nat.{ℕ, suc, ◌+◌, ◌-◌, ◌<◌, ◌≤◌}
use native.Mathlib.Numerals.{add-one}
use lib.Bits.{bit_and, bit_xor}
use lib.Dec.{eqb}
use lib.ListN.{length, get_or, take, drop, drop_of_length-le}
use lib.Seq.{drop-cons}
use borrow.Author.Tests.{eq-eqb, ne_eqb}
use Rattle.tanner.specs.Checks.{Checks, First, check, none, xor_from, nonzero, first_by}
use Rattle.tanner.specs.Masked.{measured}
use Rattle.tanner.specs.Flat.{cut, rows_from}

pub xor_more : (ps bytes : List ℕ) (x i z : ℕ) → i < length ps → xor_from x (drop i ps) bytes ≡ z
    → xor_from (bit_xor x (get_or bytes (get_or ps i 0) 0)) (drop (i + 1) ps) bytes ≡ z
unfolding xor_from
xor_more ps bytes x i z h e = rw (drop-cons ps i 0, ← add-one) at e

pub xor-done : (ps bytes : List ℕ) (x i z : ℕ) → length ps ≤ i → xor_from x (drop i ps) bytes ≡ z → x ≡ z
unfolding xor_from
xor-done ps bytes x i z h e = rw (drop_of_length-le ps h) at e

pub rows_more : (s f : List ℕ) (c : ℕ) → c + 1 < length s
    → rows_from s c f ≡ take (get_or s (c + 1) 0 - get_or s c 0) (drop (get_or s c 0) f) ∷ rows_from s (c + 1) f
unfolding rows_from cut
rows_more s f c h = rw (drop-cons s (c + 1) 0, add-one (c + 1))

pub rows_done : (s f : List ℕ) (c : ℕ) → length s ≤ c + 1 → rows_from s c f ≡ []
unfolding rows_from cut
rows_done s f c h = rw (drop_of_length-le s h)

-- ---- one turn of the scan for the first check

module _ (mask : ℕ) (bytes r : List ℕ) (rest rs : Checks) (c x : ℕ) (z : First) (h : rest ≡ r ∷ rs) (e : x ≡ xor_from 0 r bytes)
    (i : first_by (measured mask bytes) c rest ≡ z) where
  scanned : cond (eqb (nonzero (bit_and x mask)) 0) (first_by (measured mask bytes) (suc c) rs) (check c) ≡ z
  unfolding first_by
  scanned = rw e (rw h at i)

  pub first-here : (bit_and x mask ≡ 0 → ⊥) → check c ≡ z
  first-here n = simp (ne_eqb _ _ n) at scanned

  pub first-later : bit_and x mask ≡ 0 → first_by (measured mask bytes) (c + 1) rs ≡ z
  first-later n = subst (λ (k : ℕ). first_by (measured mask bytes) k rs ≡ z) (sym (add-one c)) (simp (eq-eqb _ _ n) at scanned)

pub first_nowhere : (mask : ℕ) (bytes : List ℕ) (rest : Checks) (c : ℕ) (z : First) → rest ≡ [] → first_by (measured mask bytes) c rest ≡ z → none ≡ z
unfolding first_by
first_nowhere mask bytes rest c z h e = rw h at e
