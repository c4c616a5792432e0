-- How often a list names a position. By induction over the list. Assumes nothing.
use mathlib.Core.Path.{◌≡◌, refl, sym, ap, ◌∙◌}
use mathlib.Core.Bool.{Bool, true, false, cond}
use mathlib.Core.List.{List, [], ◌∷◌, ◌++◌}
use Prim.Native.Nat.{ℕ, suc, ◌+◌, ◌<◌, ◌≤◌}
use native.Mathlib.Omega.{arith}
use borrow.Author.Tests.{eq-eqb, ne_eqb, eqb-true}
use lib.Dec.{eqb}
use lib.ListN.{length}
use Rattle.tanner.specs.Flat.{places}
use Rattle.lists.specs.Below.{Below}
use Rattle.filling.specs.Promise.{named}

-- from whatever place the entries are counted
counted_from : (p e : ℕ) (c : List ℕ) → length (places p e c) ≡ named p c
unfolding places
counted_from p e [] = refl
counted_from p e (q ∷ qs) = by (eqb q p) (counted_from p (suc e) qs) (counted_from p 1 qs)
  where
    by : (t : Bool) → length (places p (suc e) qs) ≡ named p qs → length (places p 1 qs) ≡ named p qs
        → length (cond t (e ∷ places p (suc e) qs) (places p (suc e) qs)) ≡ length (cond t (0 ∷ places p 1 qs) (places p 1 qs))
    by true a b = omega (arith, a, b)
    by false a b = a ∙ sym b

pub named_cons : (p q : ℕ) (qs : List ℕ) → named p (q ∷ qs) ≡ cond (eqb q p) 1 0 + named p qs
unfolding places
named_cons p q qs = by (eqb q p) (counted_from p 1 qs)
  where
    by : (t : Bool) → length (places p 1 qs) ≡ named p qs → length (cond t (0 ∷ places p 1 qs) (places p 1 qs)) ≡ cond t 1 0 + named p qs
    by true a = omega (arith, a)
    by false a = omega (arith, a)

pub named_none : (p : ℕ) → named p [] ≡ 0
unfolding places
named_none p = refl

pub named_head : (q : ℕ) (qs : List ℕ) → 0 < named q (q ∷ qs)
named_head q qs = rw (named_cons q q qs, eq-eqb q q refl) (omega arith)

pub named_tail : (p q : ℕ) (qs : List ℕ) → 0 < named p qs → 0 < named p (q ∷ qs)
named_tail p q qs h = omega (arith, named_cons p q qs)

-- an entry that the rest does not name
pub named-fresh : (p q : ℕ) (qs : List ℕ) → named q qs ≡ 0 → named p qs ≤ 1 → named p (q ∷ qs) ≤ 1
named-fresh p q qs z h = rw (named_cons p q qs) (by (eqb q p) refl)
  where
    by : (t : Bool) → eqb q p ≡ t → cond t 1 0 + named p qs ≤ 1
    by true f = omega (arith, ap (λ (x : ℕ). named x qs) (eqb-true q p f))
    by false f = omega arith

pub named_append : (p : ℕ) (xs ys : List ℕ) → named p (xs ++ ys) ≡ named p xs + named p ys
named_append p [] ys = omega (arith, named_none p)
named_append p (x ∷ xs) ys = named_cons p x (xs ++ ys) ∙ omega (arith, named_append p xs ys, named_cons p x xs)

-- an entry is none of those beside it
pub named_other : (p q : ℕ) (qs : List ℕ) → (q ≡ p → ⊥) → named p (q ∷ qs) ≡ named p qs
named_other p q qs h = named_cons p q qs ∙ rw (ne_eqb q p h) (omega arith)

-- positions below n alone are named
pub named_past : (n p : ℕ) (xs : List ℕ) → Below n xs → n ≤ p → named p xs ≡ 0
unfolding Below
named_past n p [] low h = named_none p
named_past n p (x ∷ xs) low h =
    named_other p x xs (λ e. omega (arith, low 0 (omega arith))) ∙ named_past n p xs (λ k l. low (suc k) (omega arith)) h
