-- `by_others::min_sum_by_others` meets its contract. The invariant: the answers so far, with those of the entries that are left, each from its others, are the
-- answer. Assumes nothing.
use Rattle.std.proofs.Common.{◌≡◌, ◌++◌, take, drop}
use Rattle.softmath.specs.CheckNode.{over_others}
use Rattle.by_others.specs.Others.{others_answer, others_sum}
use Rattle.by_others.proofs.min_sum_by_others.Given as goal

abbrev pub invariant-loop-i : goal.invariant-loop-i
invariant-loop-i l =
    take l.i l.answers ++ over_others (others_answer l.scale) (take l.i l.messages) (drop l.i l.messages) ≡ others_sum l.scale l.messages
