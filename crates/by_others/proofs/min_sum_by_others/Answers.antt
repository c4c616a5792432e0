-- `by_others::min_sum_by_others` meets its contract. The invariant: the answers so far, with those of the entries that are left, each from its others, are the
-- answer. Assumes nothing.
use Rattle.std.proofs.Common.{refl, arith}
use Rattle.by_others.specs.Others.{others_sum}
use Rattle.lists.proofs.Parts.{rest_whole}
use Rattle.by_others.proofs.ByOthers.{others_more, others-done}
use Rattle.by_others.proofs.min_sum_by_others.Goals as goal

pub loop-i-init : goal.loop-i-init
unfolding others_sum
loop-i-init c = refl

pub loop-i-preserved : goal.loop-i-preserved
loop-i-preserved c =
    rw (rw (rest_whole) at c.others_answer.ensures) (others_more _ _ _ _ _ (omega arith) (omega arith) c.loop-i.invariant)

pub returns : goal.returns
returns c = others-done _ _ _ _ _ (omega arith) (omega arith) c.loop-i.invariant
