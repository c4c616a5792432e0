-- `filling::fill` meets its contract. The invariant: what is still to be set, after what is set, is all that is set. Assumes nothing.
use Rattle.tanner.specs.Flat.{rows_of}
use Rattle.filling.proofs.Steps.{Going}
use Rattle.filling.proofs.fill.Given as goal

abbrev pub invariant-loop-n : goal.invariant-loop-n
invariant-loop-n l = Going (rows_of l.starts l.flat) l.initial.word l.initial.places l.n l.word l.places
