-- `soft_bytes::passes` meets its contract: the test of the value without its sign, once it is not -0.0. Assumes nothing.

use Rattle.std.proofs.Common.{sym, ◌∙◌}
use Rattle.soft_bytes.proofs.Value.{passes_minus, passes_other, unsigned, positive_sign}
use Rattle.soft_bytes.proofs.passes.Goals as goal

pub returns-then-is_minus_zero : goal.returns-then-is_minus_zero
returns-then-is_minus_zero c = passes_minus c.args.v (sym c.if-is_minus_zero.true ∙ c.is_minus_zero.ensures)

pub whole_eighths-requires : goal.whole_eighths-requires
whole_eighths-requires c =
    let sign = positive_sign c.args.v c.if-v.true in
    record { zero32_value = sign.0; v_value = sign.1 }

pub returns-then-v : goal.returns-then-v
returns-then-v c =
    c.whole_eighths.ensures ∙ unsigned c.args.v ∙ passes_other c.args.v (sym c.is_minus_zero.ensures ∙ c.if-is_minus_zero.false)

pub returns : goal.returns
returns c = c.whole_eighths-2.ensures ∙ passes_other c.args.v (sym c.is_minus_zero.ensures ∙ c.if-is_minus_zero.false)
