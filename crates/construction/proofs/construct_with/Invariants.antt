-- `construction::construct_with` meets its contract. The invariant: the first n columns are made.
use Rattle.std.proofs.Common.{length}
use Rattle.construction.proofs.Made.{Built}
use Rattle.construction.proofs.construct_with.Given as goal

abbrev pub invariant-loop-n : goal.invariant-loop-n
invariant-loop-n l =
    Built (length l.initial.loads) l.n l.initial.generator.state l.rows l.loads l.marks l.generator.state l.relaxed
