-- `batch_figures::add_batch` meets its contract: the tests, and then the frames of results that passed them.
use mathlib.Core.Path.{◌≡◌, sym, ap, ◌∙◌}
use Rattle.refusal.specs.Answers.{outcome_of}
use Rattle.refusal.proofs.Exits.{exit}
use Rattle.refusal.proofs.Judged.{verdict, judged_past, judged-front}
use Rattle.batch.specs.Pairs.{pairs_of}
use Rattle.figures.specs.Totals.{totals_of, sums, join_refusals}
use Rattle.batch_figures.specs.Results.{results, batch_frames, result_refusals}
use Rattle.batch_figures.proofs.Refusals.{fitting}
use Rattle.batch_figures.proofs.add_batch.Goals as goal

-- the results, the total of their frames, and what the tests found
pub returns-in_err-results_fault : goal.returns-in_err-results_fault
returns-in_err-results_fault c =
    let a = c.args in
    let handed = results a.code a.values.now (pairs_of a.pairs.now) a.bits.now a.counts.now a.rounds.now in
    let more = totals_of (batch_frames handed) in
    let found : verdict (result_refusals handed) ≡ outcome_of c.results_fault.result = sym c.results_fault.ensures in
    exit c.from_residual.result _ c.from_residual.ensures.1
    ∙ sym (judged-front (result_refusals handed) (join_refusals a.total more) (sums a.total more) _ (found ∙ ap outcome_of c.in_err-results_fault.was))

-- they found nothing
pub add_frames-requires : goal.add_frames-requires
add_frames-requires c =
    let a = c.args in
    let handed = results a.code a.values.now (pairs_of a.pairs.now) a.bits.now a.counts.now a.rounds.now in
    let found : verdict (result_refusals handed) ≡ outcome_of c.results_fault.result = sym c.results_fault.ensures in
    let fits = fitting handed (found ∙ ap outcome_of c.in_ok-results_fault.was) in
    record { all_within = fits.inside; pairs_len_bound = fits.few; counts_len = (fits.counts, fits.bits); rounds_len = fits.rounds }

pub returns : goal.returns
returns c =
    let a = c.args in
    let handed = results a.code a.values.now (pairs_of a.pairs.now) a.bits.now a.counts.now a.rounds.now in
    let more = totals_of (batch_frames handed) in
    let found : verdict (result_refusals handed) ≡ outcome_of c.results_fault.result = sym c.results_fault.ensures in
    c.add_frames.ensures
    ∙ sym (judged_past (result_refusals handed) (join_refusals a.total more) (sums a.total more) (found ∙ ap outcome_of c.in_ok-results_fault.was))
