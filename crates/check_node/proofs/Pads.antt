-- A row that lacks its last entry has a pad there, and its other entries are answered as without it: 1.0 for the products of tanhs, +infinity for min-sum.
-- By induction over the entries that are left, each with what was passed carried along. Assumes nothing.
use mathlib.Core.Path.{◌≡◌, refl, sym, ap, ◌∙◌}
use mathlib.Core.Bool.{false, true}
use mathlib.Core.List.{List, [], ◌∷◌, ◌++◌, map, map-append}
use Prim.Native.Nat.{ℕ, zero, suc}
use lib.Dec.{T}
use lib.ListN.{length, take, length-map}
use lib.Ieee.{Float, nan, inf, fin, binary32, fits, lt, neg, div, of_bits}
use lib.Ieee.Fits.{mul-fits}
use lib.Ieee.Bits.{of_bits-fits}
use Rattle.softmath.specs.Single.{◌⊗◌, zero32, one32, fold_from, product}
use Rattle.softmath.specs.Functions.{tanh, magnitude_of}
use Rattle.softmath.specs.CheckNode.{at_each, min_sum, turned, half_tanh, negated_half_tanh, check_step, before, middle, after}
use Rattle.by_others.specs.Others.{lesser_of, turned_by, others_sum}
use Rattle.softmath.specs.declared.DecodeRule.{DecodeRule}
use Rattle.softmath.specs.declared.DecodeRule.TheVariants.{SumProduct, MinSum, ScaledMinSum, Ft8}
use Rattle.softmath.proofs.Floats.{fold_fits}
use Rattle.softmath.proofs.Unrounded.{times_one}
use Rattle.softmath.proofs.Steps.{map_same, step_parts}
use Rattle.softmath.proofs.LeaveOneOut.{carried_from, fold-append, prefix-shared}
use Rattle.by_others.proofs.ByOthers.{answers_from, others-shared, same-answers}
use Rattle.check_node.specs.CheckStep.{pad_of}

-- ---- the messages that a pad is: its tanh is 1.0

pub tanh_pad : half_tanh (inf false) ≡ one32
unfolding tanh div lt neg of_bits
tanh_pad = refl

pub negated-tanh_pad : negated_half_tanh (inf true) ≡ one32
unfolding tanh div lt neg of_bits
negated-tanh_pad = refl

-- ---- products

product_pad : (s : Float) (xs : List Float) → T (fits binary32 s) → fold_from ◌⊗◌ s (xs ++ (one32 ∷ [])) ≡ fold_from ◌⊗◌ s xs
unfolding fold_from
product_pad s xs h = fold-append ◌⊗◌ s xs (one32 ∷ []) ∙ times_one (fold_from ◌⊗◌ s xs) (fold_fits s xs h)

carried_pad : (s : Float) (xs : List Float) → T (fits binary32 s) → take (length xs) (carried_from ◌⊗◌ s (xs ++ (one32 ∷ []))) ≡ carried_from ◌⊗◌ s xs
unfolding carried_from
carried_pad s [] h = refl
carried_pad s (x ∷ xs) h = rw (product_pad s xs h, carried_pad (s ⊗ x) xs (mul-fits binary32 s x))

pub products_pad : (ts : List Float) → take (length ts) (at_each product (ts ++ (one32 ∷ []))) ≡ at_each product ts
unfolding fold_from
products_pad ts =
    ap (take (length ts)) (prefix-shared ◌⊗◌ one32 [] (ts ++ (one32 ∷ []))) ∙ carried_pad one32 ts (of_bits-fits binary32 0x3f800000)
    ∙ sym (prefix-shared ◌⊗◌ one32 [] ts)

-- ---- min-sum

-- +infinity is below nothing, and not negative
not_below : (x : Float) → lt (inf false) x ≡ false
unfolding lt
not_below nan = refl
not_below (inf t) = refl
not_below (fin t n d) = refl

least_pad : (l : Float) (xs : List Float) → fold_from lesser_of l (xs ++ (inf false ∷ [])) ≡ fold_from lesser_of l xs
unfolding fold_from magnitude_of
least_pad l xs = fold-append lesser_of l xs (inf false ∷ []) ∙ rw (not_below (fold_from lesser_of l xs))

sign_pad : (g : Float) (xs : List Float) → fold_from turned_by g (xs ++ (inf false ∷ [])) ≡ fold_from turned_by g xs
unfolding fold_from
sign_pad g xs = fold-append turned_by g xs (inf false ∷ []) ∙ rw (not_below zero32)

answers_pad : (scale l g : Float) (xs : List Float) → take (length xs) (answers_from scale l g (xs ++ (inf false ∷ []))) ≡ answers_from scale l g xs
unfolding answers_from
answers_pad scale l g [] = refl
answers_pad scale l g (x ∷ xs) = rw (least_pad l xs, sign_pad g xs, answers_pad scale (lesser_of l x) (turned x g) xs)

pub min-sum_pad : (scale : Float) (vs : List Float) → take (length vs) (min_sum scale (vs ++ (inf false ∷ []))) ≡ min_sum scale vs
unfolding others_sum fold_from
min-sum_pad scale vs =
    ap (take (length vs)) (same-answers scale (vs ++ (inf false ∷ [])) ∙ others-shared scale [] (vs ++ (inf false ∷ [])))
    ∙ answers_pad scale (inf false) one32 vs
    ∙ sym (same-answers scale vs ∙ others-shared scale [] vs)

-- ---- every rule

take-map : (h : Float → Float) (n : ℕ) (xs : List Float) → take n (map h xs) ≡ map h (take n xs)
take-map h zero xs = refl
take-map h (suc n) [] = refl
take-map h (suc n) (x ∷ xs) = ap (λ (zs : List Float). h x ∷ zs) (take-map h n xs)

-- the products of the tanhs, where the pad's is 1.0
tanhs_pad : (h : Float → Float) (pad : Float) → h pad ≡ one32 → (ms : List Float)
    → take (length ms) (at_each product (map h (ms ++ (pad ∷ [])))) ≡ at_each product (map h ms)
tanhs_pad h pad e ms = rw (map-append h ms (pad ∷ []), e, ← length-map ms h) (products_pad (map h ms))

-- what the checks take together, after each message by itself
pub middle_pad : (rule : DecodeRule) (ms : List Float)
    → take (length ms) (middle rule (map (before rule) (ms ++ (pad_of rule ∷ [])))) ≡ middle rule (map (before rule) ms)
unfolding middle before pad_of
middle_pad SumProduct ms = tanhs_pad half_tanh (inf false) tanh_pad ms
middle_pad MinSum ms = rw (map_same (ms ++ (inf false ∷ [])), map_same ms) (min-sum_pad one32 ms)
middle_pad (ScaledMinSum scale) ms = rw (map_same (ms ++ (inf false ∷ [])), map_same ms) (min-sum_pad scale ms)
middle_pad Ft8 ms = tanhs_pad negated_half_tanh (inf true) negated-tanh_pad ms

-- the law: a check with its pad answers its own messages as without it
pub step_pad : (rule : DecodeRule) (ms : List Float) → take (length ms) (check_step rule (ms ++ (pad_of rule ∷ []))) ≡ check_step rule ms
step_pad rule ms =
    ap (take (length ms)) (sym (step_parts rule (ms ++ (pad_of rule ∷ []))))
    ∙ take-map (after rule) (length ms) (middle rule (map (before rule) (ms ++ (pad_of rule ∷ []))))
    ∙ ap (map (after rule)) (middle_pad rule ms)
    ∙ step_parts rule ms
