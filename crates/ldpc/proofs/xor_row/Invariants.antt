-- `ldpc::xor_row` meets its contract. The invariant: what is XORed so far, with the rest XORed on, is the whole. Assumes nothing.
use Rattle.std.proofs.Common.{◌≡◌, drop}
use Rattle.tanner.specs.Checks.{xor_from}
use Rattle.ldpc.proofs.xor_row.Given as goal

abbrev pub invariant-loop-p : goal.invariant-loop-p
invariant-loop-p l = xor_from l.x (drop l.p-index l.row) l.padded ≡ xor_from 0 l.row l.padded
