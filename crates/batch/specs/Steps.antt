-- The batch step by step: one pair tested, one frame decoded to its place, and what is known of a batch that is not refused. These are what the loops
-- over the pairs are made of, and no promise to a customer: `proofs/Pairs.antt` of `batch_refusals` and `proofs/Frames.antt` carry them to `Calls.antt`.
use Rattle.std.specs.Prelude.{◌≡◌, ◌*◌, ◌<◌, ◌≤◌, length}
use Rattle.batch.specs.Codes.{size_n, size_k}
use Rattle.batch.specs.Pairs.{AllWithin}
use Rattle.batch.specs.Calls.{Batch}
-- one pair tested: defined in crate `batch_refusals` (specs/Steps.antt)
pub use Rattle.batch_refusals.specs.Steps.{seen_all}
unfoldable pub use Rattle.batch_refusals.specs.Steps.{next_seen}
-- one frame decoded to its place: defined in crate `one_frame` (specs/Place.antt)
pub use Rattle.one_frame.specs.Place.{PlaceFits}
unfoldable pub use Rattle.one_frame.specs.Place.{placed}

-- what is known of a batch that is not refused
pub record Fitting (b : Batch) : Type 0 where
  pub known : b.code < 4
  pub inside : AllWithin (size_n b.code) (length b.values) b.pairs
  pub bits : length b.memory.bits ≡ length b.pairs * size_k b.code
  pub counts : length b.memory.counts ≡ length b.pairs
  pub rounds : length b.memory.rounds ≡ length b.pairs
  pub firsts : length b.memory.firsts ≡ length b.pairs
  pub area : 3070 ≤ length b.memory.work
