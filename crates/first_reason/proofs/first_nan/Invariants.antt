-- `first_reason::first_nan` meets its contract. The invariant: the first NaN of the values that are left is the answer. Assumes nothing.
use Rattle.std.proofs.Common.{◌≡◌, drop}
use Rattle.first_reason.specs.Reasons.{first_nan}
use Rattle.first_reason.proofs.first_nan.Given as goal

abbrev pub invariant-loop-i : goal.invariant-loop-i
invariant-loop-i l = first_nan l.i (drop l.i l.values) ≡ first_nan 0 l.values
