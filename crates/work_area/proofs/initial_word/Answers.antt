-- `work_area::initial_word` meets its contract. The invariant: what is written so far is the front of the word. Assumes nothing.
use Rattle.std.proofs.Common.{arith}
use lib.Ieee.{nan}
use Rattle.softmath.specs.Functions.{decide}
use Rattle.lists.proofs.Loops.{map_more}
use Rattle.work_area.proofs.initial_word.Goals as goal

pub loop-i-preserved : goal.loop-i-preserved
loop-i-preserved c = map_more decide nan c.args.llr.now c.loop-i.hard c.loop-i.i _ (omega arith) (omega arith) c.decide.ensures c.loop-i.invariant
