-- `columns::mark_rows` meets its contract. The invariant: the rows passed are marked.
use Rattle.std.proofs.Common.{take}
use Rattle.columns.specs.Tables.{Marked}
use Rattle.columns.proofs.mark_rows.Given as goal

abbrev pub invariant-loop-r : goal.invariant-loop-r
invariant-loop-r l = Marked (take l.r-index l.column) l.initial.marks l.marks
