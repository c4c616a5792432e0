-- `batch_refusals::next_pair` meets its contract: a refusal stays, and after a good pair the test of this one decides. Assumes nothing.
use Rattle.std.proofs.Common.{sym, ap, ◌∙◌}
use Rattle.refusal.specs.Answers.{outcome_of}
use Rattle.refusal.proofs.Exits.{exit}
use Rattle.batch_refusals.specs.Pairs.{pair}
use Rattle.batch_refusals.specs.Steps.{next_seen}
use Rattle.batch_refusals.proofs.Pairs.{pair-bad, pair-good}
use Rattle.batch_refusals.proofs.next_pair.Goals as goal

pub returns-in_err-end : goal.returns-in_err-end
unfolding next_seen
returns-in_err-end c = rw c.in_err-end.was (exit c.from_residual.result _ c.from_residual.ensures.1)

pub returns-in_err-pair_fault : goal.returns-in_err-pair_fault
returns-in_err-pair_fault c = let a = c.args in
    exit c.from_residual-in_err-pair_fault.result _ c.from_residual-in_err-pair_fault.ensures.1
    ∙ pair-bad a.n a.values (ap outcome_of c.in_ok-end.was) (pair a.offset a.size) _ (sym c.in_err-pair_fault.ensures)

pub returns : goal.returns
returns c = let a = c.args in
    pair-good a.n a.values (ap outcome_of c.in_ok-end.was) (pair a.offset a.size) (sym c.in_ok-pair_fault.ensures)
