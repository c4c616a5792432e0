-- The check step of a rule down each column, from what its passes leave: for the rules that multiply in three passes, each message by itself, those of
-- each check together and each answer by itself; for min-sum in one. Assumes nothing.
use mathlib.Core.Path.{◌≡◌, sym, ap, ◌∙◌}
use mathlib.Core.Logic.{◌⊎◌, inl, inr}
use mathlib.Core.List.{List, map}
use Prim.Native.Nat.{ℕ, ◌*◌, ◌<◌, ◌≤◌}
use native.Mathlib.Omega.{arith}
use lib.Ieee.{Float}
use lib.ListN.{length, length-map}
use Rattle.softmath.specs.Single.{product}
use Rattle.softmath.specs.CheckNode.{at_each, check_step, before, middle, after, min_sum, factor_of}
use Rattle.softmath.specs.declared.DecodeRule.{DecodeRule}
use Rattle.softmath.specs.declared.DecodeRule.TheVariants.{SumProduct, MinSum, ScaledMinSum, Ft8}
use Rattle.softmath.proofs.Steps.{step_parts}
use Rattle.slots.specs.Columns.{column}
use Rattle.slots.specs.Layout.{scattered}
use Rattle.slots.proofs.Columns.{column-map}
use Rattle.check_node.specs.CheckStep.{AtColumns, pad_of}

-- the three passes are the step
step-columns : (rule : DecodeRule) (m d : ℕ) (w u : List Float) → d * m ≤ length w → length u ≡ length w
    → ((c : ℕ) → c < m → column m d c u ≡ middle rule (column m d c (map (before rule) w)))
    → (c : ℕ) → c < m → column m d c (map (after rule) u) ≡ check_step rule (column m d c w)
step-columns rule m d w u room wide h c l =
    column-map (after rule) m d c u l (omega arith)
    ∙ ap (map (after rule)) (h c l ∙ ap (middle rule) (column-map (before rule) m d c w l room))
    ∙ step_parts rule (column m d c w)

pub three_passes : (rule : DecodeRule) (m d : ℕ) (w w1 u v : List Float) → ((ts : List Float) → middle rule ts ≡ at_each product ts)
    → length w ≡ d * m → w1 ≡ map (before rule) w → AtColumns (at_each product) m d w1 u → v ≡ map (after rule) u → AtColumns (check_step rule) m d w v
three_passes rule m d w w1 u v mul room e1 b e2 =
    let wide : length u ≡ length w = b.size ∙ ap length e1 ∙ length-map w (before rule) in
    let together : (c : ℕ) → c < m → column m d c u ≡ middle rule (column m d c (map (before rule) w)) =
    λ c k. b.columns c k ∙ sym (mul (column m d c w1)) ∙ ap (λ (x : List Float). middle rule (column m d c x)) e1
    in
    record {
      size = ap length e2 ∙ length-map u (after rule) ∙ wide;
      columns = λ c l. ap (column m d c) e2 ∙ step-columns rule m d w u (omega arith) wide together c l;
    }

-- the rules that multiply
pub multiplies : (rule : DecodeRule) → (rule ≡ SumProduct) ⊎ (rule ≡ Ft8) → (ts : List Float) → middle rule ts ≡ at_each product ts
unfolding middle
multiplies rule (inl e) ts = rw e
multiplies rule (inr e) ts = rw e

-- the two rules of min-sum
pub takes_minima : (rule : DecodeRule) → (rule ≡ MinSum) ⊎ ((scale : Float) × (rule ≡ ScaledMinSum scale)) → (ms : List Float)
    → min_sum (factor_of rule) ms ≡ check_step rule ms
unfolding factor_of check_step
takes_minima rule (inl e) ms = rw e
takes_minima rule (inr s) ms = rw s.1

-- what was answered by a function that is the rule's step, after the pads were set
pub padded_step : (rule : DecodeRule) (f : List Float → List Float) (m d : ℕ) (pads : List ℕ) (pad : Float) (w w1 v : List Float)
    → ((ms : List Float) → f ms ≡ check_step rule ms) → pad ≡ pad_of rule → w1 ≡ scattered pad pads w → AtColumns f m d w1 v
    → AtColumns (check_step rule) m d (scattered (pad_of rule) pads w) v
padded_step rule f m d pads pad w w1 v same e1 e2 a =
    let padded : w1 ≡ scattered (pad_of rule) pads w = e2 ∙ ap (λ (x : Float). scattered x pads w) e1 in
    record {
      size = a.size ∙ ap length padded;
      columns = λ c l. a.columns c l ∙ same _ ∙ ap (λ (x : List Float). check_step rule (column m d c x)) padded;
    }
