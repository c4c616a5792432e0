-- The reason that is found holds of the frame, and no earlier one does; it is `Clean` exactly for a frame that is clean by change request N2.
-- By cases on what each test finds. Assumes nothing.
use Rattle.std.proofs.Common.{Option, Some, None}
use mathlib.Core.Path.{◌≡◌, refl, sym}
use mathlib.Core.Bool.{Bool, true, false, not, cond, ◌&&◌, ◌||◌}
use mathlib.Core.List.{List, [], ◌∷◌}
use mathlib.Mathlib.Data.Bool.Basic.{and_elim_left, and_elim_right}
use Prim.Native.Nat.{ℕ, zero, suc, ◌+◌, ◌<◌}
use native.Mathlib.Nat.{add-zero, zero-add}
use native.Mathlib.Omega.{arith}
use borrow.Author.Tests.{eqb-true, eqb-false, eq-eqb, not-true}
use lib.Dec.{eqb}
use lib.Ieee.{Float, is_nan, nan}
use lib.ListN.{length, get_or, take}
use Rattle.tanner.specs.Checks.{Word, First, none, parity, count, first_unsatisfied, FirstIs, counted, satisfied}
use Rattle.tanner.proofs.First.{first-is, none-count, count_none}
use Rattle.numbered.specs.Codes.{size_k}
use Rattle.clean.specs.Clean.{any_nan, payload_checksum, carried_checksum, checksum_right, frame_clean}
use Rattle.first_reason.specs.declared.Reason.{Reason}
use Rattle.first_reason.specs.declared.Reason.TheVariants.{Checksum, Clean}
use Rattle.numbered.specs.Codes.{checks_by}
use Rattle.first_reason.specs.Reasons.{first_nan, nan_or, check_or, checksum_or, reason_for}
use Rattle.first_reason.specs.Holds.{LowestNan, NoNan, AllSatisfied, IsClean, Holds, by_nan, by_check, by_checksum, is_clean}

-- ---- the lowest NaN

-- what is found of values whose first is at position p
data Finds (p : ℕ) (values : List Float) : Option ℕ → Type 0 where
  found : (i : ℕ) → LowestNan values i → Finds p values (Some (p + i))
  absent : NoNan values → Finds p values None

below_more : (v : Float) (vs : List Float) (i : ℕ) → is_nan v ≡ false → ((j : ℕ) → j < i → is_nan (get_or vs j nan) ≡ false)
    → (j : ℕ) → j < suc i → is_nan (get_or (v ∷ vs) j nan) ≡ false
below_more v vs i e below zero h = e
below_more v vs i e below (suc j) h = below j (omega arith)

one_more : (p : ℕ) (v : Float) (vs : List Float) → is_nan v ≡ false → {f : Option ℕ} → Finds (suc p) vs f → Finds p (v ∷ vs) f
one_more p v vs e (found i l) =
    let place : suc p + i ≡ p + suc i = omega arith in
    rw place (found (suc i) (record { inside = omega (arith, l.inside); there = l.there; below = below_more v vs i e l.below }))
one_more p v vs e (absent all) = absent (below_more v vs (length vs) e all)

finds : (p : ℕ) (values : List Float) → Finds p values (first_nan p values)
unfolding first_nan
finds p [] = absent (λ j h. absurd (omega arith))
finds p (v ∷ vs) = by (is_nan v) refl (finds (suc p) vs)
  where
    by : (t : Bool) → is_nan v ≡ t → Finds (suc p) vs (first_nan (suc p) vs) → Finds p (v ∷ vs) (cond t (Some p) (first_nan (suc p) vs))
    by true e f =
        let here : Finds p (v ∷ vs) (Some (p + 0)) = found 0 (record { inside = omega arith; there = e; below = λ j h. absurd (omega arith) }) in
        rw (add-zero p) at here
    by false e f = one_more p v vs e f

-- none exactly where no value is NaN
any_absent : (p : ℕ) (vs : List Float) → any_nan vs ≡ false → first_nan p vs ≡ None
unfolding any_nan first_nan
any_absent p [] e = refl
any_absent p (v ∷ vs) e = by (is_nan v) e (any_absent (suc p) vs)
  where
    by : (t : Bool) → (t || any_nan vs) ≡ false → (any_nan vs ≡ false → first_nan (suc p) vs ≡ None) → cond t (Some p) (first_nan (suc p) vs) ≡ None
    by true q further = cc
    by false q further = further q

none_any : (vs : List Float) → NoNan vs → any_nan vs ≡ false
unfolding any_nan
none_any [] all = refl
none_any (v ∷ vs) all = rw (all 0 (omega arith)) (none_any vs (λ j h. all (suc j) (omega arith)))

-- ---- each reason by its test

module _ (code : ℕ) (values : List Float) (word : Word) where
  abbrev bits : List ℕ
  bits = take (size_k code) word

  abbrev first : First
  first = first_unsatisfied (checks_by code) word

  -- a checksum that is not asked for, or right, or wrong
  by-checksum : NoNan values → first ≡ none → AllSatisfied code word → (t : Bool) → (not (eqb code 3) || checksum_right bits) ≡ t
      → Holds code values word (cond t Clean (Checksum (carried_checksum bits) (payload_checksum bits)))
  unfolding frame_clean checksum_right
  by-checksum all e s true h = is_clean (rw (eq-eqb _ _ (none-count (checks_by code) word e), none_any values all, h))
  by-checksum all e s false h =
      by_checksum (carried_checksum bits) (payload_checksum bits) all s (ft8 (eqb code 3) refl h) refl refl (wrong (eqb code 3) h)
    where
      ft8 : (t : Bool) → eqb code 3 ≡ t → (not t || checksum_right bits) ≡ false → code ≡ 3
      ft8 true e h = eqb-true code 3 e
      ft8 false e h = let z : ◌≡◌ {A = ℕ} 0 1 = cc in absurd (omega arith)

      wrong : (t : Bool) → (not t || checksum_right bits) ≡ false → carried_checksum bits ≡ payload_checksum bits → ⊥
      wrong true h e = eqb-false (payload_checksum bits) (carried_checksum bits) h (sym e)
      wrong false h e = let z : ◌≡◌ {A = ℕ} 0 1 = cc in omega arith

  by-check : NoNan values → (f : First) → first ≡ f → FirstIs (λ r. parity r word) (checks_by code) f
      → Holds code values word (check_or f (checksum_or code bits Clean))
  unfolding checksum_or
  by-check all _ e (counted c h n below) = by_check c all (counted c h n below)
  by-check all _ e (satisfied each) = by-checksum all e (satisfied each) (not (eqb code 3) || checksum_right bits) refl

  by-nan : {f : Option ℕ} → Finds 0 values f → Holds code values word (nan_or f (check_or first (checksum_or code bits Clean)))
  by-nan (found i l) = rw (zero-add i) (by_nan i l)
  by-nan (absent all) = by-check all first refl (first-is (λ r. parity r word) (checks_by code))

  pub reason-holds : Holds code values word (reason_for code values word)
  unfolding reason_for
  reason-holds = by-nan (finds 0 values)

  -- ---- clean

  clean-by : (r : Reason) → Holds code values word r → r ≡ Clean → IsClean code values word
  clean-by _ (by_nan p l) e = let z : ◌≡◌ {A = ℕ} 0 1 = cc in absurd (omega arith)
  clean-by _ (by_check c all l) e = let z : ◌≡◌ {A = ℕ} 0 1 = cc in absurd (omega arith)
  clean-by _ (by_checksum a b all s c p q n) e = let z : ◌≡◌ {A = ℕ} 0 1 = cc in absurd (omega arith)
  clean-by _ (is_clean h) e = h

  pub clean-only : reason_for code values word ≡ Clean → IsClean code values word
  clean-only e = clean-by (reason_for code values word) reason-holds e

  pub clean-each : IsClean code values word → reason_for code values word ≡ Clean
  unfolding reason_for frame_clean checksum_or
  clean-each h =
      let zero = eqb (count (checks_by code) word) 0 in
      let free = not (any_nan values) in
      let sums = not (eqb code 3) || checksum_right bits in
      let rest = and_elim_right zero (free && sums) h in
      let satisfies = count_none (checks_by code) word (eqb-true _ _ (and_elim_left zero (free && sums) h)) in
      rw (any_absent 0 values (not-true (any_nan values) (and_elim_left free sums rest)), satisfies, and_elim_right free sums rest)
