-- The pairs of a flat list, and what their tests find: proved in crate `batch_refusals` (proofs/Pairs.antt), and passed on.
pub use Rattle.batch_refusals.proofs.Pairs.{pairs-length, pair_at, seen-pairs, one-checked, all-checked, within_at}
unfoldable pub use Rattle.batch_refusals.proofs.Pairs.{seen_from}
