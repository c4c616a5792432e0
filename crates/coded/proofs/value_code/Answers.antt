-- `coded::value_code` meets its contract: a number of 16 bits is the same number as an i32. Assumes nothing.
use Rattle.coded.proofs.Signed.{short_pos}
use Rattle.coded.proofs.value_code.Goals as goal

pub returns : goal.returns
returns c = short_pos c.args.v c.ranges.v.fits
