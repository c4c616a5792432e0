-- `ldpc_encoding::mix` meets its contract. The invariant: what is mixed so far, with the rest mixed on, is the whole.
use Rattle.std.proofs.Common.{◌≡◌}
use Rattle.std.specs.Iterator.Adapters.{zip_first, zip_second}
use Rattle.std.specs.Slice.Iter.{iter_rest}
use Rattle.ldpc_encoding.specs.Bytes.{mixed}
use Rattle.ldpc_encoding.proofs.mix.Given as goal

abbrev pub invariant-loop-g : goal.invariant-loop-g
invariant-loop-g l = mixed l.x (iter_rest (zip_first l.g-iterator)) (iter_rest (zip_second l.g-iterator)) ≡ mixed 0 l.row l.message
