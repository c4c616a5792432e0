-- `construction::column` meets its contract: three picks, each at the draw after the one before, are the definition's column, finished.
use Rattle.construction.proofs.Picks.{picked_three}
use Rattle.construction.proofs.Made.{column-made}
use Rattle.construction.proofs.column.Goals as goal

pub returns : goal.returns
returns c =
    rw (c.from.ensures, c.from-2.ensures, c.from-3.ensures)
    (column-made (picked_three c.requires c.one_pick-first.ensures c.one_pick-second.ensures c.one_pick-third.ensures) c.finish_column.ensures)
