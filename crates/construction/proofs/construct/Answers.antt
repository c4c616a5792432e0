-- `construction::construct` meets its contract: with no loads and no flags the columns can be made. Assumes nothing.
use lib.ListN.{length-replicate}
use Rattle.construction.proofs.Made.{cleared_blank}
use Rattle.construction.proofs.construct.Goals as goal

pub construct_seeded-requires : goal.construct_seeded-requires
construct_seeded-requires c =
    let pre = c.requires in
    cleared_blank _ _ _ _ _ _ pre.rows_len pre.k_bound pre.loads_nonzero (c.fill.ensures.after (λ y h. h)) (c.fill-2.ensures.after (λ y h. h))

pub returns : goal.returns
returns c =
    let all = rw (c.fill.ensures.after (λ y h. h), length-replicate) at c.construct_seeded.ensures in
    record { rows_after = all.rows; state_value = (all.state, all.relaxes) }
