-- `softmath_replay::bit` is safe: the edges lie within the floats. Assumes nothing.
use Rattle.softmath_replay.proofs.Places.{three_edges}
use Rattle.softmath_replay.proofs.bit.Goals as goal

pub listed_bits-requires-clause-listed : goal.listed_bits-requires-clause-listed
listed_bits-requires-clause-listed g c = three_edges _ c.requires
