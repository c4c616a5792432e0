-- `clean::bit_at` meets its contract: a low bit is its byte's, and past the last byte both are 0.
use Rattle.std.proofs.Common.{rules}
use Rattle.tanner.proofs.Count.{low_at}
use Rattle.clean.proofs.bit_at.Goals as goal

pub returns : goal.returns
returns c = rw low_at (search rules)
