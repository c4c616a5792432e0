-- `clean::number_of` meets its contract. The invariant: the number is that of the bits so far, which stays below a power of 2.
use Rattle.std.proofs.Common.{◌≡◌, ◌^◌, ◌<◌, take}
use Rattle.bits.specs.Bits.{number}
use Rattle.tanner.specs.Checks.{low_bits}
use Rattle.clean.proofs.number_of.Given as goal

abbrev pub invariant-loop-byte : goal.invariant-loop-byte
invariant-loop-byte l = (l.n < 2 ^ l.byte-index) × (l.n ≡ number (take l.byte-index (low_bits l.bytes)))
