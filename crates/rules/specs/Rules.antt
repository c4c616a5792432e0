-- The decode rules by number: one reading of a code, a rule and a scale, which the decoders, the batch and the promise between limits use.
use Rattle.std.specs.Prelude.{cond, ℕ, zero, suc, eqb, Float}
use Rattle.std.specs.Float.{binary32}
use Rattle.std.specs.Float.Ieee.{of_bits}
use Rattle.softmath.specs.declared.DecodeRule.{DecodeRule}
use Rattle.softmath.specs.declared.DecodeRule.TheVariants.{SumProduct, MinSum, ScaledMinSum, Ft8}

-- 0.75
abbrev pub three_quarters : Float
three_quarters = of_bits binary32 0x3f400000

-- codes 0 to 2: "Rule 0 sum-product, 1 min-sum, 2 scaled"; the house default, rule 3, "now stands for scaled min-sum at 0.75" (change request N4),
-- whatever scale is given. (Rule 4 and any above are refused.)
abbrev pub staircase_rule : ℕ → Float → DecodeRule
staircase_rule zero scale = SumProduct
staircase_rule (suc zero) scale = MinSum
staircase_rule (suc (suc zero)) scale = ScaledMinSum scale
staircase_rule (suc (suc (suc n))) scale = ScaledMinSum three_quarters

-- code 3: its own check step, and "rule 4, for code 3 only: the staircase file's unnegated and clamped check step" (N3), for which the house default,
-- rule 3, stands (N4). (Rules 1 and 2 and any above 4 are refused.)
abbrev pub ft8_rule : ℕ → DecodeRule
ft8_rule zero = Ft8
ft8_rule (suc n) = SumProduct

-- the reading of a code, a rule and a scale: the check step that a frame is decoded by
abbrev pub rule_of : ℕ → ℕ → Float → DecodeRule
rule_of zero rule scale = staircase_rule rule scale
rule_of (suc zero) rule scale = staircase_rule rule scale
rule_of (suc (suc zero)) rule scale = staircase_rule rule scale
rule_of (suc (suc (suc n))) rule scale = ft8_rule rule

-- a stored batch, which "relied on the old meaning" of rule 3, is read with "3 as 0", and "every other number" as it is (change request N4)
unfoldable pub as_stored : ℕ → ℕ
as_stored rule = cond (eqb rule 3) 0 rule
