-- `each_message::map_in_place` meets its contract. The invariant: what is passed was made from what stood there, and the rest still stands.
-- Assumes nothing.
use Rattle.std.proofs.Common.{arith}
use Rattle.each_message.proofs.Mapped.{made_more}
use Rattle.each_message.proofs.map_in_place.Goals as goal

pub loop-x-preserved : goal.loop-x-preserved
loop-x-preserved g c = made_more (goal.F-post g c.args.f) _ _ _ _ (omega arith) (omega arith) c.f.ensures c.loop-x.invariant
