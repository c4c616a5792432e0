-- What each row of a list has, the rows that the construction takes from it have: from appended, sorted and filtered lists, by a search and by a relaxed pick.
-- So a search yields no row that is skipped, and a pick none past the last. Inductions over the list.
use Rattle.std.specs.Prelude.{Some, None}
use mathlib.Core.Path.{◌≡◌, refl}
use mathlib.Core.Bool.{Bool, true, false, cond}
use mathlib.Core.List.{List, [], ◌∷◌, ◌++◌}
use Prim.Native.Nat.{ℕ, zero, suc, ◌+◌, ◌-◌, ◌≤◌, ◌<◌}
use native.Mathlib.Omega.{arith}
use lib.Dec.{leb, ltb}
use Rattle.columns.specs.Rows.{holds, insert, sorted}
use Rattle.lists.specs.Below.{Below}
use Rattle.picking.specs.Picks.{Found, up_from, once_round, without, least_of, first_least, search, first_outside, settled}

-- one of two
pub either : {A : Type 0} (P : A → Type 0) (b : Bool) {x y : A} → P x → P y → P (cond b x y)
either P true p q = p
either P false p q = q

abbrev pub Each : (ℕ → Type 0) → List ℕ → Type 0
Each P [] = Unit {0}
Each P (r ∷ rs) = P r × Each P rs

module _ (P : ℕ → Type 0) where
  pub each_append : (xs ys : List ℕ) → Each P xs → Each P ys → Each P (xs ++ ys)
  each_append [] ys p q = q
  each_append (x ∷ xs) ys p q = (p.0, each_append xs ys p.1 q)

  pub each_left : (xs ys : List ℕ) → Each P (xs ++ ys) → Each P xs
  each_left [] ys p = tt
  each_left (x ∷ xs) ys p = (p.0, each_left xs ys p.1)

  pub each_right : (xs ys : List ℕ) → Each P (xs ++ ys) → Each P ys
  each_right [] ys p = p
  each_right (x ∷ xs) ys p = each_right xs ys p.1

  each-insert : (r : ℕ) (l : List ℕ) → P r → Each P l → Each P (insert r l)
  unfolding insert
  each-insert r [] h e = (h, tt)
  each-insert r (q ∷ qs) h e = either (Each P) (leb r q) (h, e) (e.0, each-insert r qs h e.1)

  pub each-sorted : (l : List ℕ) → Each P l → Each P (sorted l)
  unfolding sorted
  each-sorted [] e = tt
  each-sorted (r ∷ rs) e = each-insert r (sorted rs) e.0 (each-sorted rs e.1)

  -- ---- the relaxed pick
  pub outside-has : (c rs : List ℕ) (other : ℕ) → P other → Each P rs → P (first_outside c rs other)
  unfolding first_outside
  outside-has c [] other p e = p
  outside-has c (r ∷ rs) other p e = either P (holds c r) (outside-has c rs other p e.1) e.0

  pub settled-has : (m : ℕ) (picked : List ℕ) (start : ℕ) (f : Found) → ((q : ℕ) → f ≡ Some q → P q) → P (first_outside picked (once_round m start) 0)
      → P (settled m picked start f).row
  unfolding settled
  settled-has m picked start (Some q) p o = p q refl
  settled-has m picked start None p o = o

  -- ---- the search
  each-without : (skip : ℕ → Bool) (rs : List ℕ) → Each P rs → Each P (without skip rs)
  unfolding without
  each-without skip [] e = tt
  each-without skip (r ∷ rs) e = either (Each P) (skip r) (each-without skip rs e.1) (e.0, each-without skip rs e.1)

  module _ (L : ℕ → ℕ) where
    least-has : (r : ℕ) (rs : List ℕ) → P r → Each P rs → P (least_of L r rs)
    unfolding least_of
    least-has r [] p e = p
    least-has r (q ∷ qs) p e = least-has (cond (ltb (L q) (L r)) q r) qs (either P (ltb (L q) (L r)) e.0 p) e.1

    first-has : (rs : List ℕ) (q : ℕ) → Each P rs → first_least L rs ≡ Some q → P q
    unfolding first_least
    first-has [] q e f =
        let z : ◌≡◌ {A = ℕ} 0 1 = cc in
        absurd (omega arith)
    first-has (r ∷ rs) q e f =
        let same : least_of L r rs ≡ q = cc in
        rw (← same) (least-has r rs e.0 e.1)

-- ---- rows below m
pub each_all : (m : ℕ) (l : List ℕ) → Each (λ r. r < m) l → Below m l
unfolding Below
each_all m [] e i h = absurd (omega arith)
each_all m (r ∷ rs) e zero h = e.0
each_all m (r ∷ rs) e (suc i) h = each_all m rs e.1 i (omega arith)

pub all-each : (m : ℕ) (l : List ℕ) → Below m l → Each (λ r. r < m) l
unfolding Below
all-each m [] a = tt
all-each m (r ∷ rs) a = (a 0 (omega arith), all-each m rs (λ i h. a (suc i) (omega arith)))

up_below : (m n a : ℕ) → a + n ≤ m → Each (λ r. r < m) (up_from a n)
unfolding up_from
up_below m zero a h = tt
up_below m (suc n) a h = (omega arith, up_below m n (suc a) (omega arith))

round_below : (m start : ℕ) → start ≤ m → Each (λ r. r < m) (once_round m start)
round_below m start h =
    each_append (λ r. r < m) (up_from start (m - start)) (up_from 0 start) (up_below m (m - start) start (omega arith)) (up_below m start 0 (omega arith))

pub outside_below : (c : List ℕ) (m start : ℕ) → start < m → first_outside c (once_round m start) 0 < m
outside_below c m start h = outside-has (λ r. r < m) c (once_round m start) 0 (omega arith) (round_below m start (omega arith))

-- ---- what a search yields
kept_free : (S : ℕ → Bool) (b : Bool) (r : ℕ) (rs : List ℕ) → S r ≡ b → Each (λ q. S q ≡ false) rs → Each (λ q. S q ≡ false) (cond b rs (r ∷ rs))
kept_free S true r rs e f = f
kept_free S false r rs e f = (e, f)

without_free : (S : ℕ → Bool) (rs : List ℕ) → Each (λ q. S q ≡ false) (without S rs)
unfolding without
without_free S [] = tt
without_free S (r ∷ rs) = kept_free S (S r) r (without S rs) refl (without_free S rs)

module _ (m : ℕ) (L : ℕ → ℕ) (S : ℕ → Bool) (start q : ℕ) where
  -- a row that is not skipped
  pub search-free : search m L S start ≡ Some q → S q ≡ false
  unfolding search
  search-free e = first-has (λ r. S r ≡ false) L (without S (once_round m start)) q (without_free S (once_round m start)) e

  pub search-below : start ≤ m → search m L S start ≡ Some q → q < m
  unfolding search
  search-below h e = first-has (λ r. r < m) L (without S (once_round m start)) q (each-without (λ r. r < m) S (once_round m start) (round_below m start h)) e
