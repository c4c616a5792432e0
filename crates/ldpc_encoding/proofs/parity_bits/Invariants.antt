-- `ldpc_encoding::parity_bits` meets its contract. The invariant: the byte holds the parity bits gathered so far.
use Rattle.std.proofs.Common.{◌≡◌}
use Rattle.ldpc_encoding.specs.Bytes.{gathered}
use Rattle.ldpc_encoding.proofs.parity_bits.Given as goal

abbrev pub invariant-loop-i : goal.invariant-loop-i
invariant-loop-i l = l.byte ≡ gathered l.generator l.message l.first l.i
