-- `soft_bytes::is_minus_zero` meets its contract: one over a zero is an infinity of its sign. Assumes nothing.

use Rattle.soft_bytes.proofs.Value.{zero_sign, not-zero}
use Rattle.soft_bytes.proofs.is_minus_zero.Goals as goal

pub returns-then-v : goal.returns-then-v
returns-then-v c = zero_sign c.args.v c.if-v.true

pub returns : goal.returns
returns c = not-zero c.args.v c.if-v.false
