-- `softmath_replay::check_step` is safe: the slots have one place each, and there is no pad. Assumes nothing.
use Rattle.softmath_replay.proofs.Places.{no_pads}
use Rattle.softmath_replay.proofs.check_step.Goals as goal

pub check_step-requires-clause-below : goal.check_step-requires-clause-below
check_step-requires-clause-below g c = no_pads _
