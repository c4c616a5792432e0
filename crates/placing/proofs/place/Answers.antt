-- `placing::place` meets its contract: the pick from the tables is the definition's, and it is marked.
use Rattle.std.proofs.Common.{arith, rules}
use Rattle.placing.proofs.Picks.{before_below, placed}
use Rattle.placing.proofs.place.Goals as goal

pub mark_together-requires : goal.mark_together-requires
mark_together-requires c =
    let pre = c.requires in
    let size = pre.1.ready.flags_are in
    record {
      q_in_bounds = omega (arith, c.pick_row-taken.ensures.row_in_bounds, size);
      n_in_bounds = search rules;
      below = rw size (before_below pre.0 pre.1);
    }

pub returns : goal.returns
returns c =
    let p = c.pick_row-taken in
    let pre = c.requires in
    placed _ _ _ _ _ _ _ p.result pre.0 pre.1 p.ensures.result_value p.ensures.row_in_bounds c.mark_together.auto.marks c.mark_together.ensures
