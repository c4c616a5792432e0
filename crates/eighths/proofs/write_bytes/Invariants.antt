-- `eighths::write_bytes` meets its contract. The invariant: what is written so far is the bytes of the values so far.
use Rattle.std.proofs.Common.{◌≡◌, take}
use Rattle.eighths.specs.Calls.{bytes_of}
use Rattle.eighths.proofs.write_bytes.Given as goal

abbrev pub invariant-loop-i : goal.invariant-loop-i
invariant-loop-i l = take l.i l.bytes ≡ take l.i (bytes_of l.positive_is_one l.values)
