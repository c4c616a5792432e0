-- `picking::search_part` meets its contract. The invariant: the rows that are left, met after what was found, give the answer;
-- where the loop is left early, they change nothing.
use Rattle.std.proofs.Common.{◌≡◌, ◌-◌, length}
use Rattle.columns.specs.Tables.{flag_at}
use Rattle.picking.specs.Picks.{up_from}
use Rattle.picking.specs.Searches.{FoundBelow, load_at, met_rows}
use Rattle.picking.proofs.search_part.Given as goal

abbrev pub invariant-loop-r : goal.invariant-loop-r
invariant-loop-r l =
    let met = met_rows (load_at l.loads) (flag_at l.marks) in
    record {
      below : FoundBelow (length l.loads) l.found;
      left : met (up_from l.r (l.to - l.r)) l.found ≡ met (up_from l.from (l.to - l.from)) l.initial.found;
    }
