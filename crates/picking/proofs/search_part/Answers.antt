-- `picking::search_part` meets its contract: a row met, or the loop left early.
use Rattle.picking.proofs.Searches.{part-more, part-stops, part_done}
use Rattle.picking.proofs.search_part.Goals as goal

pub loop-r-preserved : goal.loop-r-preserved
loop-r-preserved c =
    let one = c.better-found.ensures in
    record { below = one.found_below_2; left = part-more _ _ _ _ _ c.loop-r-test.true one.result_value c.loop-r.invariant.left }

pub returns-after-loop-r-clause-result_value : goal.returns-after-loop-r-clause-result_value
returns-after-loop-r-clause-result_value c = part_done _ _ _ _ _ c.loop-r-test.false c.loop-r.invariant.left

pub returns-then-unbeaten-clause-result_value : goal.returns-then-unbeaten-clause-result_value
returns-then-unbeaten-clause-result_value c =
    part-stops _ _ _ _ _ c.loop-r-test.true c.better-found.ensures.result_value (c.unbeaten.ensures c.if-unbeaten.true) c.loop-r.invariant.left
