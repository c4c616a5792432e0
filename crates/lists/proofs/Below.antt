-- Lists whose entries are all below a number: the empty one, one entry more, a part, two behind each other, a larger number. Assumes nothing.
use mathlib.Core.Path.{◌≡◌}
use mathlib.Core.List.{List, [], ◌∷◌, ◌++◌}
use Prim.Native.Nat.{ℕ, zero, suc, ◌+◌, ◌-◌, ◌<◌, ◌≤◌}
use native.Mathlib.Omega.{arith}
use native.Mathlib.Decide.{dec_lt}
use lib.ListN.{length, get_or, take, drop, set, length-take, length-drop, length-append, get_or-append}
use lib.Seq.{get_or-take, get_or-drop, get_or-append-add, get_or-set_same, get_or-set_other}
use Rattle.lists.specs.Below.{Below}

module _ (n : ℕ) where
  pub below_none : Below n []
  unfolding Below
  below_none k h = absurd (omega arith)

  pub below-cons : (x : ℕ) (l : List ℕ) → x < n → Below n l → Below n (x ∷ l)
  unfolding Below
  below-cons x l h low zero k = h
  below-cons x l h low (suc i) k = low i (omega arith)

  pub below-first : (x : ℕ) (l : List ℕ) → Below n (x ∷ l) → x < n
  unfolding Below
  below-first x l low = low 0 (omega arith)

  pub below_rest : (x : ℕ) (l : List ℕ) → Below n (x ∷ l) → Below n l
  unfolding Below
  below_rest x l low i h = low (suc i) (omega arith)

  pub below-append : (xs ys : List ℕ) → Below n xs → Below n ys → Below n (xs ++ ys)
  below-append [] ys f g = g
  below-append (x ∷ xs) ys f g = below-cons x (xs ++ ys) (below-first x xs f) (below-append xs ys (below_rest x xs f) g)

  pub below_left : (xs ys : List ℕ) → Below n (xs ++ ys) → Below n xs
  unfolding Below
  below_left xs ys low k h = rw get_or-append at (low k (simp length-append (omega arith)))

  pub below_right : (xs ys : List ℕ) → Below n (xs ++ ys) → Below n ys
  unfolding Below
  below_right xs ys low k h = rw get_or-append-add at (low (length xs + k) (simp length-append (omega arith)))

  pub below-take : (k : ℕ) (l : List ℕ) → Below n l → Below n (take k l)
  unfolding Below
  below-take k l low i h =
      let inside : i < k = omega (arith, length-take k l) in
      rw (get_or-take k l i 0 inside) (low i (omega (arith, length-take k l)))

  pub below-drop : (k : ℕ) (l : List ℕ) → Below n l → Below n (drop k l)
  unfolding Below
  below-drop k l low i h = rw get_or-drop (low (k + i) (omega (arith, length-drop k l)))

  pub below-part : (l : List ℕ) (a b : ℕ) → Below n l → Below n (take (b - a) (drop a l))
  below-part l a b low = below-take (b - a) (drop a l) (below-drop a l low)

  -- a part of a front of l
  pub below-within : (k a b : ℕ) (l : List ℕ) → a + b ≤ k → k ≤ length l → Below n (take k l) → Below n (take b (drop a l))
  unfolding Below
  below-within k a b l fits long low i h =
      let p : i < b = omega (arith, simp length-take at h) in
      let q : a + i < length (take k l) = simp length-take (omega arith) in
      rw (get_or-take b (drop a l) i 0 p, get_or-drop a l i 0, ← get_or-take k l (a + i) 0 (omega arith)) (low (a + i) q)

  -- a front with one entry more
  pub below_set : (i x : ℕ) (l : List ℕ) → i < length l → x < n → Below n (take i l) → Below n (take (i + 1) (set l i x))
  unfolding Below
  below_set i x l h small low j k =
      let s : j < i + 1 = omega (arith, simp length-take at k) in
      last (dec_lt j i)
    where
      last : Dec (j < i) → get_or (take (i + 1) (set l i x)) j 0 < n
      last (yes p) =
          rw (get_or-take (i + 1) (set l i x) j 0 (omega arith), get_or-set_other l i j x 0 (λ e. omega arith), ← get_or-take i l j 0 p)
          (low j (simp length-take (omega arith)))
      last (no p) =
          let e : j ≡ i = omega (arith, simp length-take at k) in
          rw (e, get_or-take (i + 1) (set l i x) i 0 (omega arith), get_or-set_same l i x 0 h) small

  pub below_less : (m : ℕ) (l : List ℕ) → n ≤ m → Below n l → Below m l
  unfolding Below
  below_less m l h low k inside = omega (arith, low k inside)

-- past the list's end stands 0, which is below any number but 0
pub below_at : (n : ℕ) (l : List ℕ) (p : ℕ) → Below (suc n) l → get_or l p 0 < suc n
below_at n [] p low = omega arith
below_at n (x ∷ l) zero low = below-first (suc n) x l low
below_at n (x ∷ l) (suc p) low = below_at n l p (below_rest (suc n) x l low)
