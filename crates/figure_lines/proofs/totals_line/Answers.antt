-- `figure_lines::totals_line` meets its contract: the figures are asked for, and their answers say which line it is.
use native.Mathlib.Omega.{arith}
use mathlib.Core.Path.{sym}
use Rattle.text.proofs.Lengths.{refusal_short}
use Rattle.figures.specs.Fraction.{Fraction, lowest}
use Rattle.figure_lines.proofs.Totals.{no-figures, with-figures}
use Rattle.figure_lines.proofs.totals_line.Goals as goal

-- no share
pub refusal_line-requires : goal.refusal_line-requires
refusal_line-requires c = omega (arith, refusal_short 15)

pub returns-in_default : goal.returns-in_default
returns-in_default c = rw (no-figures c.args.t _ (lowest c.args.t.clean c.args.t.frames) c.in_default.ensures) c.refusal_line.ensures

-- no mean
pub refusal_line-requires-in_default-mean_count : goal.refusal_line-requires-in_default-mean_count
refusal_line-requires-in_default-mean_count c = omega (arith, refusal_short 15)

pub returns-in_default-mean_count : goal.returns-in_default-mean_count
returns-in_default-mean_count c =
    rw (no-figures c.args.t _ (lowest c.args.t.counts c.args.t.frames) c.in_default-mean_count.ensures) c.refusal_line-in_default-mean_count.ensures

-- the line with the share a/b and the mean d/e
pub returns : goal.returns
returns c =
    let f = c.in-Ok.field-0 in
    let g = c.in-Ok-mean_count.field-0 in
    let share : Fraction = record { over = f.numerator; under = f.denominator } in
    let mean : Fraction = record { over = g.numerator; under = g.denominator } in
    rw (sym (with-figures c.args.t share mean c.in-Ok.ensures c.in-Ok-mean_count.ensures)) c.put_figures.ensures
