-- The sizes of the codes by number: proved in crate `batch_refusals` (proofs/Sizes.antt), and passed on.
pub use Rattle.batch_refusals.proofs.Sizes.{values_ft8, bits_ft8, Small, size_small, product_small}
