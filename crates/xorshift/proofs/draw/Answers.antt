-- `xorshift::draw` meets its contract: the machine's exclusive ors are the definition's. Assumes nothing.
use Rattle.std.proofs.Common.{arith}
use Rattle.xorshift.proofs.Bits.{draw-bits}
use Rattle.xorshift.proofs.draw.Goals as goal

pub returns : goal.returns
returns c = draw-bits _ _ _ (omega arith) c.shift_left.ensures c.shift_left-2.ensures
