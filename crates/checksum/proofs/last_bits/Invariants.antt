-- `checksum::last_bits` meets its contract. The invariant: q is the register after the turns so far.
use Rattle.std.proofs.Common.{◌≡◌}
use Rattle.checksum.specs.Upper.{turns_up, taken_in}
use Rattle.checksum.proofs.last_bits.Given as goal

abbrev pub invariant-loop : goal.invariant-loop
invariant-loop l = l.q ≡ turns_up l.counter (taken_in l.r l.byte)
