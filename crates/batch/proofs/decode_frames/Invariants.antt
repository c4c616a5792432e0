-- `batch::decode_frames` meets its contract. The invariant: the first j frames are decoded. Assumes nothing.
use Rattle.batch.specs.Pairs.{pairs_of}
use Rattle.batch.specs.Calls.{lent, batch}
use Rattle.batch.proofs.Frames.{Going}
use Rattle.batch.proofs.decode_frames.Given as goal

abbrev pub invariant-loop-j : goal.invariant-loop-j
invariant-loop-j l =
    Going
    (batch l.code l.rule l.limit l.scale l.values (pairs_of l.pairs)
    (lent l.initial.bits l.initial.counts l.initial.rounds l.initial.firsts l.initial.work))
    l.j (lent l.bits l.counts l.rounds l.firsts l.work)
