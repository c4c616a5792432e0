-- `softmath_replay::float_of` is safe: bits that are read as a float are no NaN's. Assumes nothing.
use Prim.Native.Nat.{◌%◌}
use lib.Ieee.Bits.{nan_bits_above}
use lib.Ieee.{binary32}
use borrow.Author.Tests.{le-ltb}
use Rattle.softmath_replay.proofs.float_of.Goals as goal

pub float_from_bits-result : goal.float_from_bits-result
float_from_bits-result c = rw (nan_bits_above binary32 c.args.bits, le-ltb 2139095040 (c.args.bits % 2147483648) c.if-bits-gt2139095040.false) tt
