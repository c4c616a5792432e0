-- `tanner::xor_at` meets its contract. The invariant: what is XORed so far, with the rest XORed on, is the whole. Assumes nothing.
use Rattle.std.proofs.Common.{◌≡◌, drop}
use Rattle.tanner.specs.Checks.{xor_from}
use Rattle.tanner.proofs.xor_at.Given as goal

abbrev pub invariant-loop-p : goal.invariant-loop-p
invariant-loop-p l = xor_from l.x (drop l.p-index l.positions) l.bytes ≡ xor_from 0 l.positions l.bytes
