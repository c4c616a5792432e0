-- `crc::ft8_crc14` meets its contract: the test that it makes is the condition of its refusal.
use mathlib.Core.Path.{ap}
use Prim.Native.Nat.{◌<◌, ◌≤◌}
use native.Mathlib.Omega.{arith}
use borrow.Author.Tests.{lt-ltb, le-ltb}
use lib.ListN.{length}
use Rattle.refusal.specs.Outcome.{accepted}
use Rattle.bits.specs.Bits.{bytes_for}
use Rattle.crc.proofs.ft8_crc14.Goals as goal

pub returns-then-message-bytes_for : goal.returns-then-message-bytes_for
returns-then-message-bytes_for c = let short : length c.args.message.now < bytes_for c.args.num_bits = omega arith in
    simp (lt-ltb _ _ short)

pub returns : goal.returns
returns c = let long : bytes_for c.args.num_bits ≤ length c.args.message.now = omega arith in
    simp (le-ltb _ _ long) (ap accepted c.checksum_of.ensures)
