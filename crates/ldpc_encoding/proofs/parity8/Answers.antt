-- `ldpc_encoding::parity8` meets its contract: the test of all 256 bytes.
use native.Mathlib.Omega.{arith}
use Rattle.ldpc_encoding.proofs.Parity.{folded_parity}
use Rattle.ldpc_encoding.proofs.parity8.Goals as goal

pub returns : goal.returns
returns c = folded_parity _ (omega arith)
