-- `stair_parity::fill_four` meets its contract: part after part, the rows so far are filled in. Assumes nothing.
use Rattle.std.proofs.Common.{◌+◌, arith}
use Rattle.stair_parity.proofs.Filling.{fill_then}
use Rattle.stair_parity.proofs.fill_four.Goals as goal

pub returns : goal.returns
returns c = let a = c.args in
    let so_far = fill_then a.k c.args.width a.taps.now a.first in
    so_far (a.n + a.n + a.n) a.n _ _ _ _ (omega arith)
    (so_far (a.n + a.n) a.n _ _ _ _ (omega arith) (so_far a.n a.n _ _ _ _ (omega arith) c.fill_part.ensures c.fill_part-2.ensures) c.fill_part-3.ensures)
    c.fill_part-4.ensures
