-- `batchfigures::print_totals` is safe and ends: the line is short, and the buffer as long as it was.
use mathlib.Core.Path.{sym}
use native.Mathlib.Omega.{arith}
use lib.Seq.{length-take-le}
use Rattle.figure_lines.proofs.Lengths.{totals_short}
use Rattle.batchfigures.proofs.print_totals.Goals as goal

pub slice_bounds-out-end : goal.slice_bounds-out-end
slice_bounds-out-end g c = omega (arith, totals_short c.args.total)

pub slice_bounds-print-end : goal.slice_bounds-print-end
slice_bounds-print-end g c = sym (length-take-le _ _ (omega (arith, totals_short c.args.total)))
