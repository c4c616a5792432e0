-- The numbers of codes and rules, case by case. Assumes nothing.
use mathlib.Core.Path.{◌≡◌, refl}
use Prim.Native.Nat.{ℕ, zero, suc, ◌<◌, ◌≤◌}
use native.Mathlib.Omega.{arith}
use lib.Ieee.{Float}
use Rattle.softmath.specs.declared.DecodeRule.TheVariants.{SumProduct, ScaledMinSum, Ft8}
use Rattle.rules.specs.Rules.{three_quarters, staircase_rule, ft8_rule, rule_of}

pub house_rule : (n : ℕ) (scale : Float) → (n ≡ 0 → ⊥) → (n ≡ 1 → ⊥) → (n ≡ 2 → ⊥) → ScaledMinSum three_quarters ≡ staircase_rule n scale
house_rule zero scale a b c = absurd (a refl)
house_rule (suc zero) scale a b c = absurd (b refl)
house_rule (suc (suc zero)) scale a b c = absurd (c refl)
house_rule (suc (suc (suc n))) scale a b c = refl

pub rule_of_ft8 : (code rule : ℕ) (scale : Float) → 2 < code → ft8_rule rule ≡ rule_of code rule scale
rule_of_ft8 zero rule scale h = absurd (omega arith)
rule_of_ft8 (suc zero) rule scale h = absurd (omega arith)
rule_of_ft8 (suc (suc zero)) rule scale h = absurd (omega arith)
rule_of_ft8 (suc (suc (suc n))) rule scale h = refl

pub rule_of_staircase : (code rule : ℕ) (scale : Float) → code ≤ 2 → staircase_rule rule scale ≡ rule_of code rule scale
rule_of_staircase zero rule scale h = refl
rule_of_staircase (suc zero) rule scale h = refl
rule_of_staircase (suc (suc zero)) rule scale h = refl
rule_of_staircase (suc (suc (suc n))) rule scale h = absurd (omega arith)

pub unnegated : (n : ℕ) → 0 < n → SumProduct ≡ ft8_rule n
unnegated zero h = absurd (omega arith)
unnegated (suc n) h = refl

pub own_step : (n : ℕ) → n ≤ 0 → Ft8 ≡ ft8_rule n
own_step zero h = refl
own_step (suc n) h = absurd (omega arith)
