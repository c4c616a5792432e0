-- The list of what is clean, and whether all of a part is: by induction over the list. Assumes nothing.
use mathlib.Core.Path.{◌≡◌, refl, sym, ap, ◌∙◌}
use mathlib.Core.Bool.{Bool, true, false}
use mathlib.Core.List.{List, [], ◌∷◌}
use mathlib.Mathlib.Data.Bool.Basic.{and_elim_left, and_elim_right}
use Prim.Native.Nat.{ℕ, zero, suc, ◌+◌, ◌<◌, ◌≤◌}
use native.Mathlib.Nat.{add-suc, suc-add, add-zero, zero-add}
use native.Mathlib.Omega.{arith}
use lib.ListN.{length, get_or, take, drop, length-drop}
use lib.Seq.{length-take-le, get_or-take, get_or-drop}
use Rattle.grouping.specs.Grouping.{all}
use Rattle.groups.specs.Groups.{clean_from}

module _ (clean : ℕ → Bool) where
  pub clean-length : (j n : ℕ) → length (clean_from clean j n) ≡ n
  unfolding clean_from
  clean-length j zero = refl
  clean-length j (suc n) = ap suc (clean-length (suc j) n)

  pub clean_at : (j n i : ℕ) → i < n → get_or (clean_from clean j n) i false ≡ clean (j + i)
  unfolding clean_from
  clean_at j zero i h = absurd (omega arith)
  clean_at j (suc n) zero h = rw add-zero
  clean_at j (suc n) (suc i) h = rw (add-suc, ← suc-add) (clean_at (suc j) n i (omega arith))

-- all are clean exactly if each is
all_at : (l : List Bool) → all l ≡ true → (i : ℕ) → i < length l → get_or l i false ≡ true
unfolding all
all_at [] e i h = absurd (omega arith)
all_at (c ∷ l) e zero h = and_elim_left c (all l) e
all_at (c ∷ l) e (suc i) h = all_at l (and_elim_right c (all l) e) i (omega arith)

at_all : (l : List Bool) → ((i : ℕ) → i < length l → get_or l i false ≡ true) → all l ≡ true
unfolding all
at_all [] f = refl
at_all (c ∷ l) f = let first : c ≡ true = f 0 (omega arith) in rw first (at_all l (λ i h. f (suc i) (omega arith)))

-- of the n frames from place s on
module _ (clean : ℕ → Bool) (many s n : ℕ) (fits : s + n ≤ many) where
  abbrev part : List Bool
  part = take n (drop s (clean_from clean 0 many))

  part_length : length part ≡ n
  part_length = length-take-le n (drop s (clean_from clean 0 many)) (simp length-drop (omega (arith, clean-length clean 0 many)))

  part_at : (i : ℕ) → i < n → get_or part i false ≡ clean (s + i)
  part_at i h =
      get_or-take n (drop s (clean_from clean 0 many)) i false h
      ∙ get_or-drop s (clean_from clean 0 many) i false ∙ clean_at clean 0 many (s + i) (omega arith) ∙ ap clean (zero-add (s + i))

  pub each-clean : all part ≡ true → (i : ℕ) → i < n → clean (s + i) ≡ true
  each-clean e i h = sym (part_at i h) ∙ all_at part e i (omega (arith, part_length))

  pub all-clean : ((i : ℕ) → i < n → clean (s + i) ≡ true) → all part ≡ true
  all-clean f = at_all part (λ i h. let low : i < n = omega (arith, part_length) in part_at i low ∙ f i low)
