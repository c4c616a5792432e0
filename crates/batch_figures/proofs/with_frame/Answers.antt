-- `batch_figures::with_frame` meets its contract: a refused sum stays, and a total is joined with what the frame adds.
use Rattle.std.proofs.Common.{sym, ap, ◌∙◌, Result}
use Rattle.refusal.specs.Outcome.{judged}
use Rattle.refusal.specs.declared.Refusal.{Refusal}
use Rattle.refusal.proofs.Exits.{exit}
use Rattle.figures.specs.Totals.{Frame, summed_of, join_refusals, sums}
use Rattle.figures.specs.declared.Totals.{Totals}
use Rattle.batch_figures.specs.Steps.{with_frame}
use Rattle.batch_figures.proofs.with_frame.Goals as goal

pub returns-in_err-total : goal.returns-in_err-total
unfolding with_frame
returns-in_err-total c = rw c.in_err-total.was (exit c.from_residual.result _ c.from_residual.ensures.1)

-- the total so far, and the frame
pub returns : goal.returns
unfolding with_frame
returns c =
    let total = c.in_ok-total.total in
    let frame : Frame = record { count = c.args.count; rounds = c.args.rounds; clean = c.args.clean } in
    c.join.ensures
    ∙ ap (λ (x : Totals). judged (join_refusals total x) (sums total x)) c.of_frame.ensures
    ∙ sym (ap (λ (x : Result Totals Refusal). with_frame (summed_of x) frame) c.in_ok-total.was)
