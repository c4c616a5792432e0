-- `batch_input::float_of` meets its contract. A test of the bits below the sign tells a NaN. Assumes nothing.
use mathlib.Core.Path.{refl, sym}
use Prim.Native.Nat.{◌%◌}
use lib.Ieee.{binary32, div, of_bits}
use lib.Ieee.Bits.{nan_bits_above}
use borrow.Author.Tests.{lt-ltb, le-ltb}
use Rattle.batch_input.specs.Input.{float_of}
use Rattle.batch_input.proofs.Load.{nan-bits}
use Rattle.batch_input.proofs.float_of.Goals as goal

pub float_from_bits-result : goal.float_from_bits-result
float_from_bits-result c = rw (nan_bits_above binary32 c.args.bits, le-ltb 2139095040 (c.args.bits % 2147483648) c.if-bits-gt2139095040.false) tt

pub returns-then-bits-gt2139095040 : goal.returns-then-bits-gt2139095040
unfolding float_of div of_bits
returns-then-bits-gt2139095040 c = sym (nan-bits c.args.bits
    (rw (nan_bits_above binary32 c.args.bits) (lt-ltb 2139095040 (c.args.bits % 2147483648) c.if-bits-gt2139095040.true)))

pub returns-else-bits-gt2139095040 : goal.returns-else-bits-gt2139095040
unfolding float_of
returns-else-bits-gt2139095040 c = refl
