-- A check step is the same taken in three parts, and keeps the number of messages at any degree: by induction over the messages. Assumes nothing.
use mathlib.Core.Path.{◌≡◌, refl, sym, ap, ◌∙◌}
use mathlib.Core.Bool.{Bool, true, false, not}
use mathlib.Core.List.{List, [], ◌∷◌, ◌++◌, map}
use Prim.Native.Nat.{ℕ, suc}
use lib.ListN.{length, length-map}
use lib.Ieee.{Float, nan, inf, fin, binary32, unlike, div, neg}
use Rattle.softmath.specs.Single.{◌⊘◌, two32, product}
use Rattle.softmath.specs.Functions.{tanh}
use Rattle.softmath.specs.CheckNode.{Minima, over_others, at_each, min_answers, min_sum, minima_of}
use Rattle.softmath.specs.CheckNode.{half_tanh, negated_half_tanh, check_step, before, middle, after}
use Rattle.softmath.specs.declared.DecodeRule.{DecodeRule}
use Rattle.softmath.specs.declared.DecodeRule.TheVariants.{SumProduct, MinSum, ScaledMinSum, Ft8}

-- ---- a divisor's sign may go to the dividend

unlike-not : (s t : Bool) → unlike s (not t) ≡ unlike (not s) t
unlike-not true true = refl
unlike-not true false = refl
unlike-not false true = refl
unlike-not false false = refl

pub div-neg : (x y : Float) → div binary32 x (neg y) ≡ div binary32 (neg x) y
unfolding div neg
div-neg nan y = refl
div-neg (inf s) nan = refl
div-neg (inf s) (inf t) = refl
div-neg (inf s) (fin t n d) = rw unlike-not
div-neg (fin s m e) nan = refl
div-neg (fin s m e) (inf t) = rw unlike-not
div-neg (fin s m e) (fin t n d) = simp unlike-not

-- what the passes over single messages and answers do, rule by rule
pub before-negated : (ms : List Float) → map (λ m. tanh (m ⊘ neg two32)) ms ≡ map (before Ft8) ms
unfolding before
before-negated ms = simp div-neg

-- ---- the three parts

-- a function of each answer, and one of each message, move into the step
map_over : (g : Float → Float) (f : List Float → Float) (passed xs : List Float) → map g (over_others f passed xs) ≡ over_others (λ ys. g (f ys)) passed xs
unfolding over_others
map_over g f passed [] = refl
map_over g f passed (x ∷ xs) = ap (λ (ys : List Float). g (f (passed ++ xs)) ∷ ys) (map_over g f (passed ++ (x ∷ [])) xs)

map_append : (h : Float → Float) (xs ys : List Float) → map h (xs ++ ys) ≡ map h xs ++ map h ys
map_append h [] ys = refl
map_append h (x ∷ xs) ys = ap (λ (zs : List Float). h x ∷ zs) (map_append h xs ys)

over_map : (h : Float → Float) (f : List Float → Float) (passed xs : List Float)
    → over_others f (map h passed) (map h xs) ≡ over_others (λ ys. f (map h ys)) passed xs
unfolding over_others
over_map h f passed [] = refl
over_map h f passed (x ∷ xs) = rw (map_append h passed xs, ← over_map h f (passed ++ (x ∷ [])) xs, map_append h passed (x ∷ []))

pub map_same : (xs : List Float) → map (λ x. x) xs ≡ xs
map_same [] = refl
map_same (x ∷ xs) = ap (λ (ys : List Float). x ∷ ys) (map_same xs)

pub step_parts : (rule : DecodeRule) (ms : List Float) → map (after rule) (middle rule (map (before rule) ms)) ≡ check_step rule ms
unfolding before middle after check_step
step_parts SumProduct ms = map_over (after SumProduct) product [] (map half_tanh ms) ∙ over_map half_tanh (λ ts. after SumProduct (product ts)) [] ms
step_parts MinSum ms = map_same _ ∙ ap (middle MinSum) (map_same ms)
step_parts (ScaledMinSum scale) ms = map_same _ ∙ ap (middle (ScaledMinSum scale)) (map_same ms)
step_parts Ft8 ms = map_over (after Ft8) product [] (map negated_half_tanh ms) ∙ over_map negated_half_tanh (λ ts. after Ft8 (product ts)) [] ms

-- ---- lengths

over_length : (f : List Float → Float) (passed xs : List Float) → length (over_others f passed xs) ≡ length xs
unfolding over_others
over_length f passed [] = refl
over_length f passed (x ∷ xs) = ap suc (over_length f (passed ++ (x ∷ [])) xs)

pub each-length : (f : List Float → Float) (xs : List Float) → length (at_each f xs) ≡ length xs
each-length f xs = over_length f [] xs

answers-length : (scale : Float) (m : Minima) (i : ℕ) (xs : List Float) → length (min_answers scale m i xs) ≡ length xs
unfolding min_answers
answers-length scale m i [] = refl
answers-length scale m i (x ∷ xs) = ap suc (answers-length scale m (suc i) xs)

min-length : (scale : Float) (xs : List Float) → length (min_sum scale xs) ≡ length xs
unfolding min_sum
min-length scale xs = answers-length scale (minima_of xs) 0 xs

pub before-length : (rule : DecodeRule) (ms : List Float) → length (map (before rule) ms) ≡ length ms
before-length rule ms = length-map ms (before rule)

pub middle-length : (rule : DecodeRule) (ts : List Float) → length (middle rule ts) ≡ length ts
unfolding middle
middle-length SumProduct ts = each-length product ts
middle-length MinSum ts = min-length _ ts
middle-length (ScaledMinSum scale) ts = min-length scale ts
middle-length Ft8 ts = each-length product ts

pub after-length : (rule : DecodeRule) (ps : List Float) → length (map (after rule) ps) ≡ length ps
after-length rule ps = length-map ps (after rule)

pub step-length : (rule : DecodeRule) (ms : List Float) → length (check_step rule ms) ≡ length ms
step-length rule ms =
    let befores = map (before rule) ms in
    ap length (sym (step_parts rule ms)) ∙ after-length rule (middle rule befores) ∙ middle-length rule befores ∙ before-length rule ms
