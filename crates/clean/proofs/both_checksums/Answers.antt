-- `clean::both_checksums` meets its contract: the checksum of the first 77 bits, and the number that the other 14 write.
use mathlib.Core.Path.{sym}
use native.Mathlib.Omega.{arith}
use lib.Seq.{length-take-le}
use Rattle.clean.proofs.both_checksums.Goals as goal

pub slice_bounds-checksum_of-end : goal.slice_bounds-checksum_of-end
slice_bounds-checksum_of-end c = sym (length-take-le 77 c.args.bits.now (omega (arith, c.requires)))

pub checksum_of-computed-requires : goal.checksum_of-computed-requires
checksum_of-computed-requires c = omega (arith, length-take-le 77 c.args.bits.now (omega (arith, c.requires)))

pub returns : goal.returns
returns c = (c.number_of-carried.ensures, c.checksum_of-computed.ensures)
