-- `ldpc_encoding::fill` meets its contract. The invariant: each byte before j is the codeword's.
use Rattle.std.proofs.Common.{◌≡◌, ℕ, ◌<◌, get_or}
use Rattle.ldpc_encoding.specs.Bytes.{code_byte}
use Rattle.ldpc_encoding.proofs.fill.Given as goal

abbrev pub invariant-loop-j : goal.invariant-loop-j
invariant-loop-j l = (k : ℕ) → k < l.j → get_or l.codeword k 0 ≡ code_byte l.generator l.message k
