-- `crc::ft8_extract_crc` meets its contract: the three parts of the checksum are the fourteen bits from bit 77 on.
use mathlib.Core.Path.{ap}
use lib.Bits.{and_le_r}
use lib.ListN.{get_or}
use Rattle.refusal.specs.Outcome.{accepted}
use Rattle.crc.proofs.Places.{carried_read}
use borrow.Author.Tests.{eq-eqb, ne_eqb}
use native.Mathlib.Omega.{arith}
use Rattle.crc.proofs.ft8_extract_crc.Goals as goal

pub returns-then-a91-ne12 : goal.returns-then-a91-ne12
returns-then-a91-ne12 c = simp (ne_eqb _ _ c.if-a91-ne12.true)

pub overflow_cast-top : goal.overflow_cast-top
overflow_cast-top c = omega (arith, and_le_r (get_or c.args.a91.now 9 0) 7)

pub overflow_cast-low : goal.overflow_cast-low
overflow_cast-low c = omega (arith, c.type_inv.a91 11)

pub returns : goal.returns
returns c = simp (eq-eqb _ _ c.if-a91-ne12.false)
    (ap accepted (carried_read _ c.if-a91-ne12.false (λ i. omega (arith, c.type_inv.a91 i))))
