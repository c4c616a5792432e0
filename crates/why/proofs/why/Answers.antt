-- `why::why` meets its contract. A cut place and a malformed batch are refused before all else. Assumes nothing.
use mathlib.Core.Path.{sym, ap, ap₂, ◌∙◌}
use Prim.Native.Nat.{◌≤◌}
use native.Mathlib.Omega.{arith}
use lib.ListN.{length}
use Rattle.text.proofs.Lengths.{refusal_short}
use Rattle.batch_input.specs.Input.{malformed}
use Rattle.why.specs.Why.{asked_line}
use Rattle.why.proofs.Whole.{rest-is, cut_line, malformed-line, asked-why}
use Rattle.why.proofs.why.Goals as goal

pub refusal_line-requires : goal.refusal_line-requires
refusal_line-requires c = omega (arith, refusal_short 13)

pub returns-then-input-lt2 : goal.returns-then-input-lt2
returns-then-input-lt2 c =
    let wrote = c.refusal_line.ensures in
    record { written = rw (cut_line c.args.input.now c.if-input-lt2.true) at wrote; upper_bound = omega (arith, wrote.end, refusal_short 13) }

pub refusal_line-requires-then-is_malformed : goal.refusal_line-requires-then-is_malformed
refusal_line-requires-then-is_malformed c = omega (arith, refusal_short 13)

pub returns-then-is_malformed : goal.returns-then-is_malformed
returns-then-is_malformed c =
    let input = c.args.input.now in
    let tested = c.is_malformed.ensures ∙ ap malformed (rest-is input) in
    let wrote = c.refusal_line-then-is_malformed.ensures in
    let long : 2 ≤ length input = omega arith in
    let line = malformed-line input long (sym tested ∙ c.if-is_malformed.true) in
    record { written = rw line at wrote; upper_bound = omega (arith, wrote.end, refusal_short 13) }

pub why_input-requires : goal.why_input-requires
why_input-requires c = record { input_value = sym c.is_malformed.ensures ∙ c.if-is_malformed.false; in_bounds = c.requires }

pub returns : goal.returns
returns c =
    let input = c.args.input.now in
    let tested = c.is_malformed.ensures ∙ ap malformed (rest-is input) in
    let long : 2 ≤ length input = omega arith in
    let asked = ap₂ asked_line c.u16_at-place.ensures (rest-is input) ∙ asked-why input long (sym tested ∙ c.if-is_malformed.false) in
    record { written = rw asked at c.why_input.ensures.written; upper_bound = c.why_input.ensures.upper_bound }
