-- `groups::decode_groups` meets its contract: the tests, then the batch, and then the groups of what the batch wrote. Assumes nothing.
use mathlib.Core.Path.{sym, ap, ◌∙◌}
use lib.ListN.{length}
use Rattle.refusal.proofs.Exits.{exit}
use Rattle.batch.specs.Pairs.{pairs_of}
use Rattle.batch.specs.Calls.{lent, Batch, batch, room_of}
use Rattle.batch.proofs.Whole.{all-good, all-inside}
use Rattle.grouping.proofs.Sizes.{total-fits}
use Rattle.groups.proofs.Whole.{turned_down, batch-passed, sizes-passed, carried-out}
use Rattle.groups.proofs.decode_groups.Goals.{Start}
use Rattle.groups.proofs.decode_groups.Goals as goal

pub returns-in_err-groups_fault : goal.returns-in_err-groups_fault
returns-in_err-groups_fault c =
    let a = c.args in
    let b : Batch =
    batch a.code a.rule a.limit a.scale a.values.now (pairs_of a.pairs.now) (lent a.bits.now a.counts.now a.rounds.now a.firsts.now a.work.now) in
    rw (exit c.from_residual.result _ c.from_residual.ensures.1) (turned_down b a.sizes.now _ (sym (rw c.of-room.ensures at c.in_err-groups_fault.ensures)))

pub deliver_groups-requires : goal.deliver_groups-requires
deliver_groups-requires c =
    let a = c.args in
    let b : Batch =
    batch a.code a.rule a.limit a.scale a.values.now (pairs_of a.pairs.now) (lent a.bits.now a.counts.now a.rounds.now a.firsts.now a.work.now) in
    let good = sym (rw c.of-room.ensures at c.in_ok-groups_fault.ensures) in
    let v = batch-passed b a.sizes.now good in
    let g = all-good b.code b.rule (length b.values) b.pairs (room_of b.memory) v in
    let kept = c.decode_batch-told.auto in
    record {
      all_within = all-inside b.code b.rule (length b.values) b.pairs (room_of b.memory) v;
      pairs_len_bound = g.few;
      counts_len = (kept.counts ∙ g.counts, kept.bits ∙ g.bits);
      sizes_in_bounds = total-fits a.sizes.now (length b.pairs) (sizes-passed b a.sizes.now good);
    }

pub returns : goal.returns
returns c =
    let a = c.args in
    let b : Batch =
    batch a.code a.rule a.limit a.scale a.values.now (pairs_of a.pairs.now) (lent a.bits.now a.counts.now a.rounds.now a.firsts.now a.work.now) in
    let good = sym (rw c.of-room.ensures at c.in_ok-groups_fault.ensures) in
    let l = c.decode_batch-told.new in
    carried-out b a.sizes.now good _ _ (lent l.bits l.counts l.rounds l.firsts l.work) c.decode_batch-told.ensures c.deliver_groups.ensures
