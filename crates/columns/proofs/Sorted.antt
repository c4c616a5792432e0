-- The library's sort gives `sorted`: two ascending columns in which each row stands equally often are one. Inductions over the columns.
use Rattle.std.proofs.Common.{◌≡◌, refl, sym, ◌∙◌, ℕ, suc, ◌+◌, ◌<◌, ◌≤◌, Bool, true, false, cond, eqb, leb, List, [], ◌∷◌, length, get_or, arith}
use Rattle.std.proofs.lemmas.List.Recursion.{is_sum_by}
use Rattle.std.proofs.lemmas.List.Sorted.{IsNonDecreasingBy-from_sort, sum_by-IsPermutation}
use Rattle.std.specs.List.Sorted.{IsNonDecreasing, IsPermutation, IsSortedByKey}
use Rattle.std.specs.Ordering.{nat_cmp}
use Rattle.std.proofs.lemmas.Bool.{leb-true}
use borrow.Author.Tests.{eqb-true, eq-eqb, leb-false}
use Rattle.columns.specs.Rows.{times, insert, sorted}

-- ---- how often a row stands in a sorted column
times-insert : (x : ℕ) (l : List ℕ) (r : ℕ) → times (insert x l) r ≡ cond (eqb x r) 1 0 + times l r
unfolding times insert
times-insert x [] r = refl
times-insert x (q ∷ qs) r = at (leb x q) (times-insert x qs r)
  where
    at : (b : Bool) → times (insert x qs) r ≡ cond (eqb x r) 1 0 + times qs r
        → times (cond b (x ∷ (q ∷ qs)) (q ∷ insert x qs)) r ≡ cond (eqb x r) 1 0 + times (q ∷ qs) r
    at true more = refl
    at false more = rw more (omega arith)

pub times-sorted : (l : List ℕ) (r : ℕ) → times (sorted l) r ≡ times l r
unfolding sorted times
times-sorted [] r = refl
times-sorted (x ∷ xs) r = times-insert x (sorted xs) r ∙ rw (times-sorted xs r)

-- ---- an ascending column: no row stands before a lower one
abbrev Rises : List ℕ → Type 0
Rises [] = Unit {0}
Rises (x ∷ xs) = ((r : ℕ) → 0 < times xs r → x ≤ r) × Rises xs

-- x is no higher than the first row and the others
over_all : (x q r : ℕ) (n : ℕ) → x ≤ q → (0 < n → x ≤ r) → 0 < cond (eqb q r) 1 0 + n → x ≤ r
over_all x q r n h rest some = at (eqb q r) refl some
  where
    at : (b : Bool) → eqb q r ≡ b → 0 < cond b 1 0 + n → x ≤ r
    at true e k = omega (arith, eqb-true q r e)
    at false e k = rest (omega arith)

rises-insert : (x : ℕ) (l : List ℕ) → Rises l → Rises (insert x l)
unfolding times insert
rises-insert x [] up = ((λ r h. absurd (omega arith)), tt)
rises-insert x (q ∷ qs) up = at (leb x q) refl (rises-insert x qs up.1)
  where
    at : (b : Bool) → leb x q ≡ b → Rises (insert x qs) → Rises (cond b (x ∷ (q ∷ qs)) (q ∷ insert x qs))
    at true e more = ((λ r. over_all x q r (times qs r) (leb-true x q e) (λ h. omega (arith, up.0 r h, leb-true x q e))), up)
    at false e more =
        let low : q ≤ x = omega (arith, leb-false x q e) in
        ((λ r h. over_all q x r (times qs r) low (up.0 r) (rw (times-insert x qs r) at h)), more)

rises-sorted : (l : List ℕ) → Rises (sorted l)
unfolding sorted
rises-sorted [] = tt
rises-sorted (x ∷ xs) = rises-insert x (sorted xs) (rises-sorted xs)

-- a row that stands in a column stands at a place
place_of : (l : List ℕ) (r : ℕ) → 0 < times l r → (i : ℕ) × ((i < length l) × (get_or l i 0 ≡ r))
unfolding times
place_of [] r h = absurd (omega arith)
place_of (q ∷ qs) r h = at (eqb q r) refl h (place_of qs r)
  where
    at : (b : Bool) → eqb q r ≡ b → 0 < cond b 1 0 + times qs r → (0 < times qs r → (i : ℕ) × ((i < length qs) × (get_or qs i 0 ≡ r)))
        → (i : ℕ) × ((i < length (q ∷ qs)) × (get_or (q ∷ qs) i 0 ≡ r))
    at true e k more = (0, (omega arith, eqb-true q r e))
    at false e k more = let p = more (omega arith) in (suc p.0, (omega (arith, p.1.0), p.1.1))

rises : (l : List ℕ) → IsNonDecreasing l → Rises l
rises [] up = tt
rises (x ∷ xs) up = (
  (λ r h. let p = place_of xs r h in omega (arith, up 0 (suc p.0) 0 (omega arith) (omega (arith, p.1.0)), p.1.1)),
  rises xs (λ i j d h k. up (suc i) (suc j) d (omega arith) (omega arith)),
)

-- the first row of one is no higher than that of the other, in which it stands
stands_first : (x : ℕ) (xs : List ℕ) → 0 < times (x ∷ xs) x
unfolding times
stands_first x xs = rw (eq-eqb x x refl) (omega arith)

first_low : (x y : ℕ) (xs : List ℕ) → Rises (x ∷ xs) → 0 < times (x ∷ xs) y → x ≤ y
unfolding times
first_low x y xs up h = over_all x x y (times xs y) (omega arith) (up.0 y) h

same_rising : (xs ys : List ℕ) → Rises xs → Rises ys → ((r : ℕ) → times xs r ≡ times ys r) → xs ≡ ys
unfolding times
same_rising [] [] up vp e = refl
same_rising [] (y ∷ ys) up vp e = absurd (omega (arith, e y, stands_first y ys))
same_rising (x ∷ xs) [] up vp e = absurd (omega (arith, e x, stands_first x xs))
same_rising (x ∷ xs) (y ∷ ys) up vp e =
    let low : x ≤ y = first_low x y xs up (omega (arith, e y, stands_first y ys)) in
    let high : y ≤ x = first_low y x ys vp (omega (arith, e x, stands_first x xs)) in
    let same : x ≡ y = omega arith in
    let rest : (r : ℕ) → times xs r ≡ times ys r = λ r. omega (arith, rw same at (e r)) in
    rw (same, same_rising xs ys up.1 vp.1 rest)

times-moved : (xs ys : List ℕ) (r : ℕ) → IsPermutation xs ys → times ys r ≡ times xs r
unfolding times
times-moved xs ys r h =
    let each = is_sum_by (λ l. times l r) (λ q. cond (eqb q r) 1 0) refl (λ q qs. refl) in
    each ys ∙ sum_by-IsPermutation (λ q. cond (eqb q r) 1 0) xs ys h ∙ sym (each xs)

-- what a sort of the library leaves
pub sort_is : (xs ys : List ℕ) → IsPermutation xs ys → IsSortedByKey (λ q. q) nat_cmp ys → ys ≡ sorted xs
sort_is xs ys moved up =
    same_rising ys (sorted xs) (rises ys (IsNonDecreasingBy-from_sort (λ q. q) ys up)) (rises-sorted xs)
    (λ r. times-moved xs ys r moved ∙ sym (times-sorted xs r))
