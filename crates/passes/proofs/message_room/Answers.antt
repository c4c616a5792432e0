-- `passes::message_room` meets its contract: the product of each code's degree and number of checks. Assumes nothing.
use mathlib.Core.Path.{refl}
use Rattle.passes.specs.Codes.{size_m, degree, room}
use Rattle.passes.proofs.message_room.Goals as goal

pub returns-in-N512R12-clause-value : goal.returns-in-N512R12-clause-value
unfolding room degree size_m
returns-in-N512R12-clause-value c = rw c.in-N512R12.is refl

pub returns-in-N576R23-clause-value : goal.returns-in-N576R23-clause-value
unfolding room degree size_m
returns-in-N576R23-clause-value c = rw c.in-N576R23.is refl

pub returns-in-N512R34-clause-value : goal.returns-in-N512R34-clause-value
unfolding room degree size_m
returns-in-N512R34-clause-value c = rw c.in-N512R34.is refl

pub returns-in-Ft8-clause-value : goal.returns-in-Ft8-clause-value
unfolding room degree size_m
returns-in-Ft8-clause-value c = rw c.in-Ft8.is refl
