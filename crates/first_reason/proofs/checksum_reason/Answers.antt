-- `first_reason::checksum_reason` meets its contract: the two checksums are equal, or they are the reason. Assumes nothing.
use borrow.Author.Tests.{eq-eqb, ne_eqb}
use Rattle.clean.specs.Clean.{checksum_right}
use Rattle.first_reason.specs.Reasons.{checksum_or}
use Rattle.first_reason.proofs.checksum_reason.Goals as goal

pub returns-then-computed-carried : goal.returns-then-computed-carried
unfolding checksum_or checksum_right
returns-then-computed-carried c = let both = c.both_checksums-both.ensures in rw (← both.0, ← both.1, eq-eqb _ _ c.if-computed-carried.true)

pub returns : goal.returns
unfolding checksum_or checksum_right
returns c = let both = c.both_checksums-both.ensures in rw (← both.0, ← both.1, ne_eqb _ _ c.if-computed-carried.false)
