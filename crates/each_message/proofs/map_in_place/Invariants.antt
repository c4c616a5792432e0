-- `each_message::map_in_place` meets its contract. The invariant: what is passed was made from what stood there, and the rest still stands.
-- Assumes nothing.
use Rattle.each_message.proofs.Mapped.{MadeTo}
use Rattle.each_message.proofs.map_in_place.Given as goal

abbrev pub invariant-loop-x : goal.invariant-loop-x
invariant-loop-x g l = MadeTo (goal.F-post g l.f) l.x-index l.initial.part l.part
