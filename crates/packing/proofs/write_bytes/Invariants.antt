-- `packing::write_bytes` meets its contract. The invariant: what is written so far is the bytes so far.
use Rattle.std.proofs.Common.{◌≡◌, take}
use Rattle.packing.specs.Packing.{bytes_from}
use Rattle.packing.proofs.write_bytes.Given as goal

abbrev pub invariant-loop-i : goal.invariant-loop-i
invariant-loop-i l = take l.i l.bytes ≡ bytes_from l.word 0 l.i
