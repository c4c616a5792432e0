-- `picking::search` meets its contract: the two parts are once round the rows.
use Rattle.picking.proofs.Searches.{parts_round}
use Rattle.picking.proofs.search.Goals as goal

pub returns-clause-result_value : goal.returns-clause-result_value
returns-clause-result_value c = parts_round _ _ _ _ c.search_part-first.ensures.result_value c.search_part.ensures.result_value
