-- `soft_bytes::value_of` meets its contract, by definition once the byte is known to be zero or not. Assumes nothing.

use Rattle.std.proofs.Common.{refl, w8}
use mir.ValLaws.{to_z-of_z}
use Rattle.soft_bytes.specs.Values.{value_of}
use Rattle.soft_bytes.proofs.Byte.{zero_bits, nonzero-bits}
use Rattle.soft_bytes.proofs.value_of.Goals as goal

pub returns-then-b-eq0 : goal.returns-then-b-eq0
unfolding value_of
returns-then-b-eq0 c = rw (zero_bits c.args.b c.ranges.b c.if-b-eq0.true) refl

pub returns-then-positive_is_one : goal.returns-then-positive_is_one
unfolding value_of
returns-then-positive_is_one c =
    rw (nonzero-bits c.args.b c.if-b-eq0.false, c.if-positive_is_one.true, to_z-of_z w8 c.args.b c.ranges.b) refl

pub returns-else-positive_is_one : goal.returns-else-positive_is_one
unfolding value_of
returns-else-positive_is_one c =
    rw (nonzero-bits c.args.b c.if-b-eq0.false, c.if-positive_is_one.false, to_z-of_z w8 c.args.b c.ranges.b) refl
