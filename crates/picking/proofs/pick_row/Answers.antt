-- `picking::pick_row` meets its contract: a row that the search found, or the relaxed pick.
use Rattle.std.proofs.Common.{sym, ◌∙◌, mod-lt}
use Rattle.picking.proofs.Searches.{below_row}
use Rattle.picking.proofs.Relaxed.{settled-row, settled_relaxed}
use Rattle.picking.proofs.Rows.{outside_below}
use Rattle.picking.proofs.pick_row.Goals as goal

pub returns-in_default-clause-result_value : goal.returns-in_default-clause-result_value
returns-in_default-clause-result_value c =
    settled_relaxed _ _ _ _ (sym c.search.ensures.result_value ∙ c.in_default.is) c.relaxed_row-row.ensures

pub returns-in_default-clause-row_in_bounds : goal.returns-in_default-clause-row_in_bounds
returns-in_default-clause-row_in_bounds c = rw c.relaxed_row-row.ensures (outside_below _ _ _ (mod-lt _ c.requires.loads_nonzero))

pub returns-clause-result_value : goal.returns-clause-result_value
returns-clause-result_value c = settled-row _ _ _ _ (sym c.search.ensures.result_value ∙ c.in-Some.is)

pub returns-clause-row_in_bounds : goal.returns-clause-row_in_bounds
returns-clause-row_in_bounds c = below_row c.in-Some.is c.search.ensures.found_below
