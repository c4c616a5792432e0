-- What a computed test says at each of its numbers: by induction over the test. Assumes nothing.
use mathlib.Core.Path.{◌≡◌, refl, sym, ap, ap₂, ◌∙◌}
use mathlib.Core.Bool.{Bool, true, false, beq}
use mathlib.Core.List.{List, [], ◌∷◌}
use mathlib.Mathlib.Data.Bool.Basic.{and_elim_left, and_elim_right}
use Prim.Native.Nat.{ℕ, zero, suc, ◌<◌}
use native.Mathlib.Decide.{dec_lt}
use native.Mathlib.Omega.{arith}
use borrow.Author.Tests.{eqb-true}
use lib.Dec.{eqb}
use Rattle.code174.specs.Agreement.{each, same}

pub beq_same : (a b : Bool) → beq a b ≡ true → a ≡ b
beq_same true true h = refl
beq_same true false h = sym h
beq_same false true h = h
beq_same false false h = refl

pub each_at : (n : ℕ) (f : ℕ → Bool) → each n f ≡ true → (k : ℕ) → k < n → f k ≡ true
unfolding each
each_at zero f t k h = absurd (omega arith)
each_at (suc n) f t k h = by (dec_lt k n) (each_at n f (and_elim_right (f n) (each n f) t) k)
  where
    by : Dec (k < n) → (k < n → f k ≡ true) → f k ≡ true
    by (yes l) further = further l
    by (no l) further = let last : k ≡ n = omega arith in ap f last ∙ and_elim_left (f n) (each n f) t

pub same_lists : (xs ys : List ℕ) → same xs ys ≡ true → xs ≡ ys
unfolding same
same_lists [] [] t = refl
same_lists [] (y ∷ ys) t = absurd (let z : ◌≡◌ {A = ℕ} 0 1 = cc in omega arith)
same_lists (x ∷ xs) [] t = absurd (let z : ◌≡◌ {A = ℕ} 0 1 = cc in omega arith)
same_lists (x ∷ xs) (y ∷ ys) t =
    ap₂ (λ (h : ℕ) (l : List ℕ). h ∷ l) (eqb-true x y (and_elim_left (eqb x y) (same xs ys) t)) (same_lists xs ys (and_elim_right (eqb x y) (same xs ys) t))
