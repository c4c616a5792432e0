-- Rows met one after another, with the best kept, are the first least loaded of the rows that are not skipped. Inductions over the rows.
use Rattle.std.specs.Prelude.{Some, None}
use mathlib.Core.Path.{◌≡◌, refl, sym, ◌∙◌}
use mathlib.Core.Bool.{Bool, true, false, cond, not}
use mathlib.Core.List.{List, [], ◌∷◌, ◌++◌}
use Prim.Native.Nat.{ℕ, suc, ◌+◌, ◌-◌, ◌≤◌, ◌<◌}
use native.Mathlib.Numerals.{add-one}
use native.Mathlib.Omega.{arith}
use borrow.Author.Tests.{le-ltb, lt-ltb, eq-eqb, ne_eqb}
use lib.Dec.{ltb, eqb}
use lib.ListN.{get_or}
use Rattle.columns.specs.Tables.{flag_at}
use Rattle.picking.specs.Picks.{Found, up_from, once_round, without, least_of, first_least, search}
use Rattle.picking.specs.Searches.{met_row, met_rows, Unbeaten, FoundBelow, load_at}

module _ (L : ℕ → ℕ) (S : ℕ → Bool) where
  pub met-append : (xs ys : List ℕ) (f : Found) → met_rows L S (xs ++ ys) f ≡ met_rows L S ys (met_rows L S xs f)
  unfolding met_rows
  met-append [] ys f = refl
  met-append (x ∷ xs) ys f = met-append xs ys (met_row L (S x) x f)

  kept_step : (b : Bool) (r q : ℕ) (rs : List ℕ) → ((p : ℕ) → met_rows L S rs (Some p) ≡ Some (least_of L p (without S rs)))
      → met_rows L S rs (met_row L b r (Some q)) ≡ Some (least_of L q (cond b (without S rs) (r ∷ without S rs)))
  unfolding met_row least_of
  kept_step true r q rs h = h q
  kept_step false r q rs h = h (cond (ltb (L r) (L q)) r q)

  met-kept : (rs : List ℕ) (q : ℕ) → met_rows L S rs (Some q) ≡ Some (least_of L q (without S rs))
  unfolding met_rows without least_of
  met-kept [] q = refl
  met-kept (r ∷ rs) q = kept_step (S r) r q rs (met-kept rs)

  first_step : (b : Bool) (r : ℕ) (rs : List ℕ) → met_rows L S rs None ≡ first_least L (without S rs)
      → met_rows L S rs (met_row L b r None) ≡ first_least L (cond b (without S rs) (r ∷ without S rs))
  unfolding met_row first_least
  first_step true r rs h = h
  first_step false r rs h = met-kept rs r

  pub met-first : (rs : List ℕ) → met_rows L S rs None ≡ first_least L (without S rs)
  unfolding met_rows without first_least
  met-first [] = refl
  met-first (r ∷ rs) = first_step (S r) r rs (met-first rs)

  -- the two parts of the search
  pub met-round : (m start : ℕ) → met_rows L S (up_from 0 start) (met_rows L S (up_from start (m - start)) None) ≡ search m L S start
  unfolding search
  met-round m start = sym (met-append (up_from start (m - start)) (up_from 0 start) None) ∙ met-first (once_round m start)

  zero-step : (b : Bool) (r q : ℕ) → L q ≡ 0 → met_row L b r (Some q) ≡ Some q
  unfolding met_row least_of
  zero-step true r q e = refl
  zero-step false r q e = rw (le-ltb (L r) (L q) (omega arith))

  zero-kept : (rs : List ℕ) (q : ℕ) → L q ≡ 0 → met_rows L S rs (Some q) ≡ Some q
  unfolding met_rows
  zero-kept [] q e = refl
  zero-kept (r ∷ rs) q e = rw (zero-step (S r) r q e) (zero-kept rs q e)

-- nothing that follows an unloaded row changes what was found
pub unbeaten_kept : (ls : List ℕ) (S : ℕ → Bool) (rs : List ℕ) (f : Found) → Unbeaten ls f → met_rows (load_at ls) S rs f ≡ f
unfolding load_at
unbeaten_kept ls S rs None u = absurd u
unbeaten_kept ls S rs (Some q) u = zero-kept (load_at ls) S rs q u

-- the rows up to an end, from one before it
pub up_more : (r to : ℕ) → r < to → up_from r (to - r) ≡ r ∷ up_from (r + 1) (to - (r + 1))
unfolding up_from
up_more r to h =
    let e : to - r ≡ suc (to - (r + 1)) = omega arith in
    rw (e, add-one)

pub up_none : (r to : ℕ) → to ≤ r → up_from r (to - r) ≡ []
unfolding up_from
up_none r to h =
    let e : to - r ≡ 0 = omega arith in
    rw e

-- ---- one row met
pub below_row : {m q : ℕ} {f : Found} → f ≡ Some q → FoundBelow m f → q < m
below_row {m} e b = rw e at b

flag_set : (x : ℕ) → (x ≡ 0 → ⊥) → not (eqb x 0) ≡ true
flag_set x h = rw (ne_eqb x 0 h)

flag_clear : (x : ℕ) → x ≡ 0 → not (eqb x 0) ≡ false
flag_clear x h = rw (eq-eqb x 0 h)

module _ (ls fs : List ℕ) (r : ℕ) {f : Found} where
  pub met-skipped : (get_or fs r 0 ≡ 0 → ⊥) → f ≡ met_row (load_at ls) (flag_at fs r) r f
  unfolding met_row flag_at
  met-skipped h = rw (flag_set (get_or fs r 0) h)

  module _ (clear : get_or fs r 0 ≡ 0) where
    pub met-only : f ≡ None → Some r ≡ met_row (load_at ls) (flag_at fs r) r f
    unfolding met_row flag_at
    met-only e = rw (e, flag_clear (get_or fs r 0) clear)

    pub met_less : (q : ℕ) → f ≡ Some q → get_or ls r 0 < get_or ls q 0 → Some r ≡ met_row (load_at ls) (flag_at fs r) r f
    unfolding met_row least_of flag_at load_at
    met_less q e h = rw (e, flag_clear (get_or fs r 0) clear, lt-ltb (get_or ls r 0) (get_or ls q 0) h)

    pub met-other : (q : ℕ) → f ≡ Some q → get_or ls q 0 ≤ get_or ls r 0 → Some q ≡ met_row (load_at ls) (flag_at fs r) r f
    unfolding met_row least_of flag_at load_at
    met-other q e h = rw (e, flag_clear (get_or fs r 0) clear, le-ltb (get_or ls r 0) (get_or ls q 0) h)

-- ---- the loop over the rows
module _ (ls fs : List ℕ) (to r : ℕ) (f : Found) {g h : Found} (more : r < to) (turn : g ≡ met_row (load_at ls) (flag_at fs r) r f) where
  -- the rows that are left, after one of them
  pub part-more : met_rows (load_at ls) (flag_at fs) (up_from r (to - r)) f ≡ h → met_rows (load_at ls) (flag_at fs) (up_from (r + 1) (to - (r + 1))) g ≡ h
  unfolding met_rows
  part-more inv = rw turn (rw (up_more r to more) at inv)

  pub part-stops : Unbeaten ls g → met_rows (load_at ls) (flag_at fs) (up_from r (to - r)) f ≡ h → g ≡ h
  part-stops u inv = sym (unbeaten_kept ls (flag_at fs) (up_from (r + 1) (to - (r + 1))) g u) ∙ part-more inv

pub part_done : (ls fs : List ℕ) (to r : ℕ) (f : Found) {h : Found} → to ≤ r → met_rows (load_at ls) (flag_at fs) (up_from r (to - r)) f ≡ h → f ≡ h
unfolding met_rows
part_done ls fs to r f past inv = rw (up_none r to past) at inv

-- the two parts of a search, one after the other
pub parts_round : (ls fs : List ℕ) (m start : ℕ) {f g : Found} → f ≡ met_rows (load_at ls) (flag_at fs) (up_from start (m - start)) None
    → g ≡ met_rows (load_at ls) (flag_at fs) (up_from 0 (start - 0)) f → g ≡ search m (load_at ls) (flag_at fs) start
parts_round ls fs m start p q =
    let z : start - 0 ≡ start = omega arith in
    q ∙ rw (p, z) (met-round (load_at ls) (flag_at fs) m start)
