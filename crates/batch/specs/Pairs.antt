-- A pair, and the frames that pairs name: defined in crate `batch_refusals` (specs/Pairs.antt), and passed on.
pub use Rattle.batch_refusals.specs.Pairs.{Pair, pair, frames_of, AllWithin}
unfoldable pub use Rattle.batch_refusals.specs.Pairs.{pairs_of, frame_of}
