-- `eighths::write_values` meets its contract. The invariant: what is written so far is the values of the bytes so far.
use Rattle.std.proofs.Common.{◌≡◌, take}
use Rattle.eighths.specs.Calls.{values_of}
use Rattle.eighths.proofs.write_values.Given as goal

abbrev pub invariant-loop-i : goal.invariant-loop-i
invariant-loop-i l = take l.i l.values ≡ take l.i (values_of l.positive_is_one l.bytes)
