-- Laws of loops over a list, whatever is computed: by splitting the list at the loop's index. Assumes nothing.
use mathlib.Core.Path.{◌≡◌, refl, sym, ◌∙◌}
use mathlib.Core.List.{List, [], ◌∷◌, ◌++◌, map, append_assoc, append-nil}
use Prim.Native.Nat.{ℕ, suc, ◌+◌, ◌≤◌, ◌<◌}
use native.Mathlib.Nat.{zero-add}
use native.Mathlib.Numerals.{add-one}
use native.Mathlib.Omega.{arith}
use lib.ListN.{length, take, drop, get_or, set, drop_of_length-le, length-map, get_or-map}
use lib.Seq.{take-suc, take-suc-set, drop-set-lt, drop-cons, take_all, paste-suc}

-- A loop that reads each element: G says what is left to do from the state s with the elements that are left.
module _ {A S R : Type 0} (G : S → List A → R) (next : S → A → List A → S) (step : (s : S) (x : A) (xs : List A)
    → G s (x ∷ xs) ≡ G (next s x xs) xs) (d : A) where
  pub read_more : (l : List A) (r : R) (i : ℕ) (s t : S) → i < length l → t ≡ next s (get_or l i d) (drop (i + 1) l) → G s (drop i l) ≡ r
      → G t (drop (i + 1) l) ≡ r
  read_more l r i s t h e k = rw e (rw add-one (sym (step s (get_or l i d) (drop (suc i) l)) ∙ (rw (drop-cons l i d h) at k)))

-- A loop that puts a value in each element's place: F makes the values from the state s on, and out the one in x's place, with xs after it.
module _ {A S : Type 0} (F : S → List A → List A) (out : S → A → List A → A) (next : S → A → S) (step : (s : S) (x : A) (xs : List A)
    → F s (x ∷ xs) ≡ out s x xs ∷ F (next s x) xs) (d : A) where
  pub place-more : (l r : List A) (i : ℕ) (s t : S) (v : A) → i < length l → v ≡ out s (get_or l i d) (drop (i + 1) l) → t ≡ next s (get_or l i d)
      → take i l ++ F s (drop i l) ≡ r
      → take (i + 1) (set l i v) ++ F t (drop (i + 1) (set l i v)) ≡ r
  place-more l r i s t v h e g k =
      let h1 : i < suc i = omega arith in
      rw (e, g, add-one, take-suc-set, drop-set-lt, append_assoc) (rw (drop-cons l i d h, step) at k)

  pub place-done : (F-nil : (s : S) → F s [] ≡ []) (l r : List A) (i : ℕ) (s : S) → length l ≤ i → take i l ++ F s (drop i l) ≡ r → l ≡ r
  place-done F-nil l r i s h k = simp (take_all, drop_of_length-le, F-nil, append-nil, h) at k

-- the same where each value depends on the element alone
module _ {A : Type 0} (f : A → A) (d : A) where
  pub each_more : (l r : List A) (i : ℕ) (v : A) → i < length l → v ≡ f (get_or l i d) → take i l ++ map f (drop i l) ≡ r
      → take (i + 1) (set l i v) ++ map f (drop (i + 1) (set l i v)) ≡ r
  each_more l r i v h e k = place-more (λ (s : Unit {0}) (xs : List A). map f xs) (λ s x xs. f x) (λ s x. s) (λ s x xs. refl) d l r i tt tt v h e refl k

  pub each-done : (l r : List A) (i : ℕ) → length l ≤ i → take i l ++ map f (drop i l) ≡ r → l ≡ r
  each-done l r i h k = place-done (λ (s : Unit {0}) (xs : List A). map f xs) (λ s x xs. f x) (λ s x. s) (λ s x xs. refl) d (λ s. refl) l r i tt h k

-- A loop that fills another list from the front with the elements of one: what is written so far is its front.
module _ {A : Type 0} (src : List A) (d : A) where
  pub fill_more : (out : List A) (i : ℕ) (v : A) → i < length src → i < length out → v ≡ get_or src i d → take i out ≡ take i src
      → take (i + 1) (set out i v) ≡ take (i + 1) src
  fill_more out i v h k e t = rw (add-one, take-suc-set out i v k, take-suc src i d h, t, e)

  pub fill_done : (out : List A) (i : ℕ) → length src ≤ i → length out ≤ i → take i out ≡ take i src → out ≡ src
  fill_done out i h k t = sym (take_all i out k) ∙ t ∙ take_all i src h

  -- the same where the list to be filled may be longer: what lies behind stays as it was
  pub front-more : (old out : List A) (i : ℕ) → i < length src → i < length old → out ≡ take i src ++ drop i old
      → set out i (get_or src i d) ≡ take (i + 1) src ++ drop (i + 1) old
  front-more old out i h k e = rw (e, add-one) (simp zero-add at (paste-suc old 0 src i d (rw (zero-add i) k) h))

-- a list filled with a function of each element of one
module _ {A B : Type 0} (f : A → B) (d : A) where
  pub map_more : (l : List A) (out : List B) (i : ℕ) (v : B) → i < length l → i < length out → v ≡ f (get_or l i d) → take i out ≡ take i (map f l)
      → take (i + 1) (set out i v) ≡ take (i + 1) (map f l)
  map_more l out i v h k e = fill_more (map f l) (f d) out i v (simp length-map h) k (e ∙ sym (get_or-map f l i d))

  pub map-done : (l : List A) (out : List B) (i : ℕ) → length l ≤ i → length out ≤ i → take i out ≡ take i (map f l) → out ≡ map f l
  map-done l out i h = fill_done (map f l) (f d) out i (simp length-map h)
