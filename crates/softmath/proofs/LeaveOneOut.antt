-- A leave-one-out fold in order, over any operation and start, may share its prefix: by induction over the entries that are left. Assumes nothing.
use mathlib.Core.Path.{◌≡◌, refl}
use mathlib.Core.List.{List, [], ◌∷◌, ◌++◌}
use Prim.Native.Nat.{ℕ, ◌+◌, ◌<◌}
use lib.ListN.{length, drop, get_or}
use lib.Ieee.{Float, nan}
use Rattle.softmath.specs.Single.{fold_from}
use Rattle.softmath.specs.CheckNode.{over_others}
use Rattle.lists.proofs.Loops.{read_more}

module _ (op : Float → Float → Float) where
  -- at each entry the fold of the entries after it, started from the fold of those before
  unfoldable pub carried_from : Float → List Float → List Float
  carried_from s [] = []
  carried_from s (x ∷ xs) = fold_from op s xs ∷ carried_from (op s x) xs

  pub fold-append : (s : Float) (xs ys : List Float) → fold_from op s (xs ++ ys) ≡ fold_from op (fold_from op s xs) ys
  unfolding fold_from
  fold-append s [] ys = refl
  fold-append s (x ∷ xs) ys = fold-append (op s x) xs ys

  -- the entries passed, folded once, serve every later entry
  pub prefix-shared : (s : Float) (passed xs : List Float) → over_others (fold_from op s) passed xs ≡ carried_from (fold_from op s passed) xs
  unfolding over_others carried_from fold_from
  prefix-shared s passed [] = refl
  prefix-shared s passed (x ∷ xs) = rw (fold-append s passed xs, prefix-shared s (passed ++ (x ∷ [])) xs, fold-append s passed (x ∷ []))

  -- a turn of a loop that folds
  pub fold_more : (l : List Float) (r : Float) (i : ℕ) (s : Float) → i < length l → fold_from op s (drop i l) ≡ r
      → fold_from op (op s (get_or l i nan)) (drop (i + 1) l) ≡ r
  unfolding fold_from
  fold_more l r i s h k = read_more (fold_from op) (λ s x xs. op s x) (λ s x xs. refl) nan l r i s _ h refl k
