-- `clean::checksum_right` meets its contract: it compares the two checksums.
use Rattle.clean.specs.Clean.{checksum_right}
use Rattle.clean.proofs.checksum_right.Goals as goal

pub returns : goal.returns
unfolding checksum_right
returns c = let both = c.both_checksums-both.ensures in rw (both.0, both.1)
