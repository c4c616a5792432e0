-- `batch_figures::results_fault` meets its contract: the batch's own tests, of a room with the outputs' lengths.
use mathlib.Core.Path.{sym, ◌∙◌}
use Rattle.batch.specs.Pairs.{pairs_of}
use Rattle.batch.proofs.Pairs.{pairs-length}
use Rattle.batch_figures.specs.Results.{results}
use Rattle.batch_figures.proofs.Refusals.{as-batch}
use Rattle.batch_figures.proofs.results_fault.Goals as goal

pub returns : goal.returns
returns c = let a = c.args in
    let r = results a.code a.values.now (pairs_of a.pairs.now) a.bits.now a.counts.now a.rounds.now in
    c.batch_fault.ensures ∙ as-batch r _ (sym (pairs-length a.pairs.now))
