-- Known answers of the definitions, by computing: three frames of two bytes, of which the second is open. Assumes nothing.
use mathlib.Core.Path.{◌≡◌, refl}
use mathlib.Core.Bool.{Bool, true, false}
use mathlib.Core.List.{List, [], ◌∷◌}
use Prim.Native.Nat.{ℕ}
use Rattle.refusal.specs.Outcome.{refused}
use Rattle.refusal.proofs.Judged.{verdict, nothing}
use Rattle.grouping.specs.Grouping.{some_zero, total, size_refusals, all, delivered}

abbrev clean : List Bool
clean = true ∷ false ∷ true ∷ []

abbrev bits : List ℕ
bits = 0 ∷ 1 ∷ 1 ∷ 0 ∷ 1 ∷ 1 ∷ []

pub two_groups : delivered 2 (2 ∷ 1 ∷ []) clean bits ≡ 255 ∷ 255 ∷ 255 ∷ 255 ∷ 1 ∷ 1 ∷ []
unfolding delivered all
two_groups = refl

pub three_groups : delivered 2 (1 ∷ 1 ∷ 1 ∷ []) clean bits ≡ 0 ∷ 1 ∷ 255 ∷ 255 ∷ 1 ∷ 1 ∷ []
unfolding delivered all
three_groups = refl

pub no_groups : delivered 2 [] clean bits ≡ bits
unfolding delivered
no_groups = refl

-- a sum that would wrap at 32 bits is another sum
pub sizes_of_three : (verdict (size_refusals 3 (2 ∷ 1 ∷ [])) ≡ nothing) × (verdict (size_refusals 3 []) ≡ nothing)
    × (verdict (size_refusals 3 (3 ∷ 0 ∷ [])) ≡ refused 20) × (verdict (size_refusals 3 (2 ∷ [])) ≡ refused 20)
    × (verdict (size_refusals 3 (4294967295 ∷ 4 ∷ [])) ≡ refused 20)
unfolding some_zero total
sizes_of_three = (refl, refl, refl, refl, refl)
