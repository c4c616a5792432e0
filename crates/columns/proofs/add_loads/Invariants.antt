-- `columns::add_loads` meets its contract. The invariant: the rows passed are counted.
use Rattle.std.proofs.Common.{take}
use Rattle.columns.specs.Tables.{Loaded}
use Rattle.columns.proofs.add_loads.Given as goal

abbrev pub invariant-loop-r : goal.invariant-loop-r
invariant-loop-r l = Loaded (take l.r-index l.column) l.initial.loads l.loads
