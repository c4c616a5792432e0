-- `picking::unbeaten` meets its contract, case by case.
use Rattle.std.proofs.Common.{arith, eqb-true}
use Rattle.picking.proofs.Searches.{below_row}
use Rattle.picking.proofs.unbeaten.Goals as goal

pub offset_bounds-loads-q : goal.offset_bounds-loads-q
offset_bounds-loads-q c = omega (arith, below_row c.in-Some.is c.requires)

pub bounds-loads-q : goal.bounds-loads-q
bounds-loads-q c = below_row c.in-Some.is c.requires

pub returns : goal.returns
returns c = λ e. rw c.in-Some.is (eqb-true _ _ e)
