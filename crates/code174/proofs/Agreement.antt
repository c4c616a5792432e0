-- The tables agree: the test is computed once, and what it says of each entry and each edge is read off it. Assumes nothing.
use mathlib.Core.Path.{◌≡◌, refl, sym, ap, ap₂, ◌∙◌}
use mathlib.Core.Bool.{Bool, true, false, cond, ◌&&◌, beq}
use mathlib.Core.List.{List, [], ◌∷◌, ◌++◌, map, map-append}
use mathlib.Mathlib.Data.Bool.Basic.{and_elim_left, and_elim_right}
use Prim.Native.Nat.{ℕ, zero, suc, pred, ◌+◌, ◌<◌, ◌≤◌}
use native.Mathlib.Nat.{add-zero, add-suc, suc-add, zero-add}
use native.Mathlib.Omega.{arith}
use borrow.Author.Tests.{ltb-true, lt-ltb, le-ltb, eqb-true, eq-eqb, ne_eqb}
use lib.Dec.{eqb, ltb}
use lib.ListN.{length, get_or, replicate}
use Rattle.tanner.specs.Checks.{Checks}
use Rattle.tanner.specs.Flat.{joined, places}
use Rattle.tanner.proofs.Places.{places_append}
use Rattle.code174.specs.Tables.{nm, num_rows, mn}
use Rattle.code174.specs.Code174.{rows_of_seven, checks}
use Rattle.code174.specs.Agreement.{each, same, times, listing, check_of_edge, nm_at, mn_at, mn_row, row_holds, position_holds, tables_agree, Agreed}
use Rattle.code174.proofs.Tests.{each_at, same_lists, beq_same}

-- ---- the test, computed over the whole tables

pub tables_agree_lem : tables_agree ≡ true
unfolding tables_agree each same times listing mn_row row_holds position_holds nm num_rows mn checks rows_of_seven
tables_agree_lem = refl

-- ---- a list of checks: check c stands among the checks that list p as often as it lists p

times_append : (x : ℕ) (xs ys : List ℕ) → times x (xs ++ ys) ≡ times x xs + times x ys
unfolding times
times_append x [] ys = sym (zero-add (times x ys))
times_append x (y ∷ xs) ys = rw (times_append x xs ys) (omega arith)

times-same : (x n : ℕ) → times x (replicate n x) ≡ n
unfolding times
times-same x zero = refl
times-same x (suc n) = rw (eq-eqb x x refl, times-same x n) (omega arith)

times_other : (x y n : ℕ) → (y ≡ x → ⊥) → times x (replicate n y) ≡ 0
unfolding times
times_other x y zero h = refl
times_other x y (suc n) h = rw (ne_eqb y x h, times_other x y n h)

-- none before the first
times_past : (p c x : ℕ) (rs : Checks) → x < c → times x (listing p c rs) ≡ 0
unfolding times listing
times_past p c x [] h = refl
times_past p c x (r ∷ rs) h = rw
    (times_append x (replicate (times p r) c) (listing p (suc c) rs), times_other x c (times p r) (λ e. omega arith), times_past p (suc c) x rs (omega arith))

times-listing : (p c i : ℕ) (rs : Checks) → times (c + i) (listing p c rs) ≡ times p (get_or rs i [])
unfolding times listing
times-listing p c zero [] = refl
times-listing p c (suc i) [] = refl
times-listing p c zero (r ∷ rs) =
    rw (add-zero, times_append c (replicate (times p r) c) (listing p (suc c) rs), times-same c (times p r), times_past p (suc c) c rs (omega arith), add-zero)
times-listing p c (suc i) (r ∷ rs) =
    rw (times_append (c + suc i) (replicate (times p r) c) (listing p (suc c) rs), times_other (c + suc i) c (times p r) (λ e. omega arith))
    (rw (zero-add, add-suc, ← suc-add) (times-listing p (suc c) i rs))

-- ---- a list of checks: the edges at which p stands, in order, are those of the checks that list p

-- where f gives c at each place of a row, it gives c as often as the row lists p
row_edges : (p c a : ℕ) (r : List ℕ) (f : ℕ → ℕ) → ((e : ℕ) → a ≤ e → e < a + length r → f e ≡ c) → map f (places p a r) ≡ replicate (times p r) c
unfolding places times
row_edges p c a [] f h = refl
row_edges p c a (q ∷ r) f h = by (eqb q p) (row_edges p c (suc a) r f (λ e l u. h e (omega arith) (omega arith)))
  where
    by : (t : Bool) → map f (places p (suc a) r) ≡ replicate (times p r) c
        → map f (cond t (a ∷ places p (suc a) r) (places p (suc a) r)) ≡ replicate (cond t 1 0 + times p r) c
    by true ih = rw (h a (omega arith) (omega arith), ih, suc-add, zero-add)
    by false ih = rw zero-add ih

-- two functions that agree from a on give the same over the places from a on
same_from : (p a : ℕ) (l : List ℕ) (f g : ℕ → ℕ) → ((e : ℕ) → a ≤ e → f e ≡ g e) → map f (places p a l) ≡ map g (places p a l)
unfolding places
same_from p a [] f g h = refl
same_from p a (q ∷ l) f g h = by (eqb q p) (same_from p (suc a) l f g (λ e u. h e (omega arith)))
  where
    by : (t : Bool) → map f (places p (suc a) l) ≡ map g (places p (suc a) l)
        → map f (cond t (a ∷ places p (suc a) l) (places p (suc a) l)) ≡ map g (cond t (a ∷ places p (suc a) l) (places p (suc a) l))
    by true ih = rw (h a (omega arith), ih)
    by false ih = ih

edges_listed : (p c a : ℕ) (rs : Checks) → map (check_of_edge c a rs) (places p a (joined rs)) ≡ listing p c rs
unfolding joined places check_of_edge listing
edges_listed p c a [] = refl
edges_listed p c a (r ∷ rs) =
    let f = check_of_edge c a (r ∷ rs) in
    let next = a + length r in
    rw (places_append p a r (joined rs), map-append)
    (ap₂ ◌++◌ (row_edges p c a r f (λ e l u. simp (lt-ltb e next u)))
    (same_from p next (joined rs) f (check_of_edge (suc c) next rs) (λ e u. simp (le-ltb e next u)) ∙ edges_listed p (suc c) next rs))

-- ---- three that ascend hold none twice

apart : (x y z : ℕ) → y < z → cond (eqb y x) 1 0 + cond (eqb z x) 1 0 ≤ 1
apart x y z h = by (eqb y x) (eqb z x) refl refl
  where
    by : (s t : Bool) → eqb y x ≡ s → eqb z x ≡ t → cond s 1 0 + cond t 1 0 ≤ 1
    by true true e f = absurd (omega (arith, eqb-true y x e, eqb-true z x f))
    by true false e f = omega arith
    by false true e f = omega arith
    by false false e f = omega arith

few_times : (x a b c : ℕ) → a < b → b < c → times x (a ∷ b ∷ c ∷ []) ≤ 1
unfolding times
few_times x a b c h k = omega (arith, apart x a b h, apart x b c k, apart x a c (omega arith))

-- ---- what the test says

abbrev degrees : Bool
degrees = eqb (times 7 num_rows) 24 && eqb (times 6 num_rows) 59

first_two : (degrees && each 83 row_holds) ≡ true
unfolding tables_agree
first_two = and_elim_left (degrees && each 83 row_holds) (each 174 position_holds) tables_agree_lem

degrees_hold : degrees ≡ true
degrees_hold = and_elim_left degrees (each 83 row_holds) first_two

row_at : (c : ℕ) → c < 83 → row_holds c ≡ true
row_at = each_at 83 row_holds (and_elim_right degrees (each 83 row_holds) first_two)

position_at : (p : ℕ) → p < 174 → position_holds p ≡ true
unfolding tables_agree
position_at = each_at 174 position_holds (and_elim_right (degrees && each 83 row_holds) (each 174 position_holds) tables_agree_lem)

module _ (c i : ℕ) (h : c < 83) (l : i < 7) where
  entry : (ltb i (get_or num_rows c 0) ≡ ltb 0 (nm_at c i)) × (nm_at c i ≤ 174)
  unfolding row_holds
  entry =
      let there = beq (ltb i (get_or num_rows c 0)) (ltb 0 (nm_at c i)) in
      let low = ltb (nm_at c i) 175 in
      let both : (there && low) ≡ true = each_at 7 _ (row_at c h) i l in
      let small = ltb-true (nm_at c i) 175 (and_elim_right there low both) in
      (beq_same (ltb i (get_or num_rows c 0)) (ltb 0 (nm_at c i)) (and_elim_left there low both), omega (arith, small))

module _ (p : ℕ) (h : p < 174) where
  abbrev lower : Bool
  lower = ltb 0 (mn_at p 0) && ltb (mn_at p 0) (mn_at p 1)

  abbrev upper : Bool
  upper = ltb (mn_at p 1) (mn_at p 2) && ltb (mn_at p 2) 84

  ascending : (lower && upper) ≡ true
  unfolding position_holds
  ascending = and_elim_left (lower && upper) (same (listing p 0 checks) (mn_row p)) (position_at p h)

  rises : (0 < mn_at p 0) × (mn_at p 0 < mn_at p 1) × (mn_at p 1 < mn_at p 2) × (mn_at p 2 ≤ 83)
  rises =
      let low = and_elim_left lower upper ascending in
      let high = and_elim_right lower upper ascending in (
        ltb-true _ _ (and_elim_left (ltb 0 (mn_at p 0)) (ltb (mn_at p 0) (mn_at p 1)) low),
        ltb-true _ _ (and_elim_right (ltb 0 (mn_at p 0)) (ltb (mn_at p 0) (mn_at p 1)) low),
        ltb-true _ _ (and_elim_left (ltb (mn_at p 1) (mn_at p 2)) (ltb (mn_at p 2) 84) high),
        omega (arith, ltb-true (mn_at p 2) 84 (and_elim_right (ltb (mn_at p 1) (mn_at p 2)) (ltb (mn_at p 2) 84) high)),
      )

  listed : listing p 0 checks ≡ mn_row p
  unfolding position_holds
  listed = same_lists (listing p 0 checks) (mn_row p) (and_elim_right (lower && upper) (same (listing p 0 checks) (mn_row p)) (position_at p h))

  edge_at : (c : ℕ) → times p (get_or checks c []) ≡ times c (mn_row p)
  edge_at c = sym (rw zero-add at (times-listing p 0 c checks)) ∙ ap (times c) listed

  once-at : (c : ℕ) → times p (get_or checks c []) ≤ 1
  unfolding mn_row
  once-at c =
      let r = rises in
      rw (edge_at c) (few_times c (pred (mn_at p 0)) (pred (mn_at p 1)) (pred (mn_at p 2)) (omega arith) (omega arith))

-- the rule that later proofs cite
pub agreed : Agreed
agreed = record {
  sevens = eqb-true _ _ (and_elim_left (eqb (times 7 num_rows) 24) (eqb (times 6 num_rows) 59) degrees_hold);
  sixes = eqb-true _ _ (and_elim_right (eqb (times 7 num_rows) 24) (eqb (times 6 num_rows) 59) degrees_hold);
  entries = entry;
  rising = rises;
  order = listed;
  heard = λ p h. edges_listed p 0 0 checks ∙ listed p h;
  edge = edge_at;
  once = once-at;
}
