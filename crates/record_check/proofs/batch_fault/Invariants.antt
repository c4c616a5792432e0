-- `record_check::batch_fault` meets its contract. The invariant: what the records that are left come to is what all come to. Assumes nothing.
use Rattle.std.proofs.Common.{◌≡◌, drop}
use Rattle.refusal.specs.Answers.{outcome_of}
use Rattle.refusal.proofs.Judged.{verdict}
use Rattle.batch_refusals.specs.Refusals.{pair_refusals}
use Rattle.batch_refusals.proofs.Pairs.{seen_from}
use Rattle.record_check.specs.Fields.{pairs_of}
use Rattle.record_check.proofs.batch_fault.Given as goal

abbrev pub invariant-loop-p : goal.invariant-loop-p
invariant-loop-p l = seen_from l.n l.values (outcome_of l.seen) (drop l.p-index (pairs_of l.pairs)) ≡ verdict (pair_refusals l.n l.values 0 (pairs_of l.pairs))
