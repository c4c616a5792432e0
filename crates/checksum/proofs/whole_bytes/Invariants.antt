-- `checksum::whole_bytes` meets its contract. The invariant: r is the register after the bytes so far.
use Rattle.std.proofs.Common.{◌≡◌, ◌*◌}
use Rattle.checksum.specs.Register.{register}
use Rattle.checksum.specs.Upper.{upper}
use Rattle.checksum.proofs.whole_bytes.Given as goal

abbrev pub invariant-loop-byte : goal.invariant-loop-byte
invariant-loop-byte l = l.r ≡ upper (register l.message (8 * l.byte-index))
