-- `ldpc_encoding::mix` meets its contract. The invariant: what is mixed so far, with the rest mixed on, is the whole.
use Rattle.std.proofs.lemmas.Slice.Zip.{either_empty_from_Zip}
use Rattle.ldpc_encoding.proofs.Parity.{mixed_more, mixed-done}
use Rattle.ldpc_encoding.proofs.mix.Goals as goal

pub loop-g-preserved : goal.loop-g-preserved
loop-g-preserved c = mixed_more _ _ _ _ c.in-Some.ensures.steps.0 c.in-Some.ensures.steps.1 c.loop-g.invariant

pub returns : goal.returns
returns c = mixed-done _ _ _ _ (either_empty_from_Zip _ c.next.new.self _ c.in-None.is c.next.ensures.steps) c.loop-g.invariant
