-- `clean::checksum_of` meets its contract. The invariant: the register is the checksum of the bits so far.
use Rattle.std.proofs.Common.{◌≡◌, take}
use Rattle.checksum.specs.Qex.{qex}
use Rattle.clean.proofs.Steps.{padded}
use Rattle.clean.proofs.checksum_of.Given as goal

abbrev pub invariant-loop-i : goal.invariant-loop-i
invariant-loop-i l = l.r ≡ qex (take l.i (padded l.bytes))
