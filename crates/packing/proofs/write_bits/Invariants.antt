-- `packing::write_bits` meets its contract. The invariant: what is written so far is the bits so far.
use Rattle.std.proofs.Common.{◌≡◌, take}
use Rattle.bits.specs.Bits.{bits}
use Rattle.packing.proofs.write_bits.Given as goal

abbrev pub invariant-loop-i : goal.invariant-loop-i
invariant-loop-i l = take l.i l.word ≡ take l.i (bits l.bytes)
