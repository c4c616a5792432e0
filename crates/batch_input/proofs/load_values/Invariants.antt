-- `batch_input::load_values` meets its contract. The invariant: what is written so far is the front of the list.
use Rattle.std.proofs.Common.{◌≡◌, take}
use Rattle.batch_input.specs.Input.{u32s_from, float_of}
use Rattle.batch_input.proofs.load_values.Given as goal

abbrev pub invariant-loop-i : goal.invariant-loop-i
invariant-loop-i l = take l.i l.values ≡ u32s_from float_of l.input l.at l.i
