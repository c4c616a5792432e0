-- `batch_refusals::pairs_fault` meets its contract. The invariant: what the pairs that are left come to is what all come to. Assumes nothing.
use Rattle.std.proofs.Common.{◌≡◌, drop, map}
use Rattle.refusal.specs.Answers.{outcome_of}
use Rattle.refusal.proofs.Judged.{verdict}
use Rattle.batch_refusals.specs.Pairs.{pairs_of}
use Rattle.batch_refusals.specs.Refusals.{pair_refusals}
use Rattle.batch_refusals.proofs.Pairs.{of-two, seen_from}
use Rattle.batch_refusals.proofs.pairs_fault.Given as goal

abbrev pub invariant-loop-offset : goal.invariant-loop-offset
invariant-loop-offset l =
    seen_from l.n l.values (outcome_of l.seen) (drop l.offset-index (map of-two l.offset-items)) ≡ verdict (pair_refusals l.n l.values 0 (pairs_of l.pairs))
