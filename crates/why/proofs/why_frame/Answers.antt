-- `why::why_frame` meets its contract: the line of a refusal, or that of the frame. Assumes nothing.
use mathlib.Core.Path.{sym, ap, ◌∙◌}
use native.Mathlib.Omega.{arith}
use Rattle.refusal.specs.Answers.{outcome_of}
use Rattle.text.specs.Text.{refusal_line}
use Rattle.text.proofs.Lengths.{refusal_short}
use Rattle.batch_input.proofs.Wellformed.{wellformed}
use Rattle.why.proofs.Asked.{asked-refused, known-code, pairs-inside, place_inside, asked-line}
use Rattle.why.proofs.why_frame.Goals as goal

pub refusal_line-requires : goal.refusal_line-requires
refusal_line-requires c = omega (arith, refusal_short c.from.result, c.requires.in_bounds)

pub returns-in-Err : goal.returns-in-Err
returns-in-Err c =
    let v = sym c.input_fault.ensures ∙ ap outcome_of c.in-Err.is in
    let line = ap refusal_line c.from.ensures ∙ asked-refused c.args.input.now c.args.place _ v in
    let wrote = c.refusal_line.ensures in
    record { written = rw line at wrote; upper_bound = omega (arith, wrote.end, refusal_short c.from.result) }

pub explain-requires : goal.explain-requires
explain-requires c =
    let a = c.args in
    let passed = sym c.input_fault.ensures ∙ ap outcome_of c.in_default.is in
    record {
      in_bounds = ((wellformed a.input.now c.requires.input_value).head, known-code a.input.now a.place passed);
      all_within = pairs-inside a.input.now a.place passed a.values.now a.pairs.now c.requires.values_value c.requires.pairs_value;
      place_in_bounds = place_inside a.input.now a.place passed a.values.now a.pairs.now c.requires.values_value c.requires.pairs_value;
      in_bounds_2 = c.requires.in_bounds;
    }

pub returns : goal.returns
returns c =
    let a = c.args in
    let passed = sym c.input_fault.ensures ∙ ap outcome_of c.in_default.is in
    let line = asked-line a.input.now a.place passed a.values.now a.pairs.now c.requires.values_value c.requires.pairs_value in
    record { written = rw line at c.explain.ensures.written; upper_bound = c.explain.ensures.upper_bound }
