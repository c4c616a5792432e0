-- `picking::relaxed_row` meets its contract: the two parts are once round the rows. Assumes nothing.
use mathlib.Core.Path.{◌≡◌}
use Prim.Native.Nat.{◌-◌}
use native.Mathlib.Omega.{arith}
use Rattle.picking.proofs.Relaxed.{outside_append}
use Rattle.picking.proofs.relaxed_row.Goals as goal

pub returns : goal.returns
returns c =
    let start = c.args.start in
    let z : start - 0 ≡ start = omega arith in
    rw (c.first_outside.ensures, c.first_outside-wrapped.ensures, z) (outside_append _ _ _ _)
