-- The places at which a position stands in a flat list, which are its edges: they rise, they are all such places, and the place of an entry
-- is the one whose rank is the number of such places before it. By induction over the list. Assumes nothing.
use mathlib.Core.Path.{◌≡◌, refl, ap, ◌∙◌}
use mathlib.Core.Bool.{Bool, true, false, cond}
use mathlib.Core.List.{List, [], ◌∷◌, ◌++◌}
use Prim.Native.Nat.{ℕ, zero, suc, ◌+◌, ◌<◌}
use native.Mathlib.Nat.{add-zero, zero-add, add-suc, suc-add}
use native.Mathlib.Omega.{arith}
use borrow.Author.Tests.{eq-eqb, eqb-true}
use lib.Dec.{eqb}
use lib.ListN.{length, get_or, take, drop, length-append}
use lib.Seq.{split_at, get_or_at, length-take-le}
use Rattle.tanner.specs.Flat.{places}

-- places of two lists, one after the other
pub places_append : (p e : ℕ) (xs ys : List ℕ) → places p e (xs ++ ys) ≡ places p e xs ++ places p (e + length xs) ys
unfolding places
places_append p e [] ys = rw add-zero
places_append p e (x ∷ xs) ys =
    let ih : places p (suc e) (xs ++ ys) ≡ places p (suc e) xs ++ places p (e + suc (length xs)) ys = rw (add-suc, ← suc-add) (places_append p (suc e) xs ys) in
    by (eqb x p) ih
  where
    by : (t : Bool) → places p (suc e) (xs ++ ys) ≡ places p (suc e) xs ++ places p (e + suc (length xs)) ys
        → cond t (e ∷ places p (suc e) (xs ++ ys)) (places p (suc e) (xs ++ ys)) ≡ cond t (e ∷ places p (suc e) xs) (places p (suc e) xs)
        ++ places p (e + suc (length xs)) ys
    by true h = ap (λ (l : List ℕ). e ∷ l) h
    by false h = h

-- p itself stands at e
pub places_here : (p e : ℕ) (ys : List ℕ) → places p e (p ∷ ys) ≡ e ∷ places p (suc e) ys
unfolding places
places_here p e ys = simp (eq-eqb p p refl)

-- ---- every place is one where p stands

-- x is a place of the list, counted from e, and p stands there
pub record Stands (p e : ℕ) (xs : List ℕ) (x : ℕ) : Type 0 where
  pub index : ℕ
  pub place : x ≡ e + index
  pub inside : index < length xs
  pub holds : get_or xs index 0 ≡ p

later : (p e y x : ℕ) (xs : List ℕ) → Stands p (suc e) xs x → Stands p e (y ∷ xs) x
later p e y x xs s = record { index = suc s.index; place = omega (arith, s.place); inside = omega (arith, s.inside); holds = s.holds }

stand_by : (p e y : ℕ) (xs : List ℕ) (t : Bool) → eqb y p ≡ t
    → ((k : ℕ) → k < length (places p (suc e) xs) → Stands p (suc e) xs (get_or (places p (suc e) xs) k 0))
    → (k : ℕ) → k < length (cond t (e ∷ places p (suc e) xs) (places p (suc e) xs))
    → Stands p e (y ∷ xs) (get_or (cond t (e ∷ places p (suc e) xs) (places p (suc e) xs)) k 0)
stand_by p e y xs true t f zero h = record { index = 0; place = omega arith; inside = omega arith; holds = eqb-true y p t }
stand_by p e y xs true t f (suc k) h = later p e y _ xs (f k (omega arith))
stand_by p e y xs false t f k h = later p e y _ xs (f k h)

pub places_stand : (p e : ℕ) (xs : List ℕ) (k : ℕ) → k < length (places p e xs) → Stands p e xs (get_or (places p e xs) k 0)
unfolding places
places_stand p e [] k h = absurd (omega arith)
places_stand p e (y ∷ xs) k h = stand_by p e y xs (eqb y p) refl (places_stand p (suc e) xs) k h

-- ---- the place of an entry, by its rank

module _ (flat : List ℕ) (e : ℕ) (h : e < length flat) where
  -- the number of places before e where its position stands
  abbrev pub rank : ℕ
  rank = length (places (get_or flat e 0) 0 (take e flat))

  split : places (get_or flat e 0) 0 flat ≡ places (get_or flat e 0) 0 (take e flat) ++ (e ∷ places (get_or flat e 0) (suc e) (drop (suc e) flat))
  split =
      let p = get_or flat e 0 in
      ap (places p 0) (split_at flat e 0 h)
      ∙ places_append p 0 (take e flat) (p ∷ drop (suc e) flat)
      ∙ rw (zero-add, length-take-le e flat (omega arith)) (ap (λ (l : List ℕ). places p 0 (take e flat) ++ l) (places_here p e (drop (suc e) flat)))

  pub rank-inside : rank < length (places (get_or flat e 0) 0 flat)
  rank-inside = rw split (simp length-append (omega arith))

  pub rank-place : get_or (places (get_or flat e 0) 0 flat) rank 0 ≡ e
  rank-place = rw split (get_or_at (places (get_or flat e 0) 0 (take e flat)) e (places (get_or flat e 0) (suc e) (drop (suc e) flat)) 0 rank refl)
