-- `slot_others::replace_column` meets its contract: the answers are the second engine's, and they are put where the messages were. Assumes nothing.
use mathlib.Core.Path.{sym, ap, ◌∙◌}
use Prim.Native.Nat.{ℕ, ◌*◌}
use Rattle.slot_others.proofs.OneColumn.{answers-size, answers-put}
use Rattle.slot_others.proofs.replace_column.Goals as goal

pub put_column-requires : goal.put_column-requires
put_column-requires c = let size = answers-size _ _ _ c.min_sum_by_others.ensures in
    (c.requires.work_len.0 ∙ ap (λ (x : ℕ). x * c.args.m) (sym size), c.requires.work_len.1)

pub returns : goal.returns
returns c = answers-put _ _ _ _ _ _ _ _ c.factor_of.ensures c.min_sum_by_others.ensures c.put_column.ensures
