-- What a column holds, read from its list: one row more at a time. Inductions over the list.
use mathlib.Core.Path.{◌≡◌, refl}
use mathlib.Core.Bool.{Bool, true, false, cond, ◌||◌, or_assoc}
use mathlib.Core.List.{List, [], ◌∷◌, ◌++◌}
use Prim.Native.Nat.{ℕ, ◌+◌, ◌≤◌}
use native.Mathlib.Omega.{arith}
use lib.Dec.{eqb}
use lib.ListN.{length}
use Rattle.columns.specs.Rows.{holds, times}

pub holds_append : (xs ys : List ℕ) (r : ℕ) → holds (xs ++ ys) r ≡ (holds xs r || holds ys r)
unfolding holds
holds_append [] ys r = refl
holds_append (x ∷ xs) ys r = rw (holds_append xs ys r, or_assoc)

pub times_append : (xs ys : List ℕ) (r : ℕ) → times (xs ++ ys) r ≡ times xs r + times ys r
unfolding times
times_append [] ys r = omega arith
times_append (x ∷ xs) ys r = rw (times_append xs ys r) (omega arith)

one_at_most : (b : Bool) → cond b 1 0 ≤ 1
one_at_most true = omega arith
one_at_most false = omega arith

pub times-le : (xs : List ℕ) (r : ℕ) → times xs r ≤ length xs
unfolding times
times-le [] r = omega arith
times-le (x ∷ xs) r = omega (arith, times-le xs r, one_at_most (eqb x r))
