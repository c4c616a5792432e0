-- `placing::finish_column` meets its contract: what is put back is the column, sorted, and its rows are counted.
use Rattle.placing.proofs.Finished.{v_below, room, finished-column}
use Rattle.placing.proofs.finish_column.Goals as goal

pub add_loads-requires : goal.add_loads-requires
add_loads-requires c =
    let e = c.sort_column.ensures in
    record { below = v_below c.requires _ e; room = room c.requires _ e }

pub returns : goal.returns
returns c = rw (c.fill.ensures.after (λ y h. h)) (finished-column c.requires _ c.sort_column.ensures c.add_loads.ensures c.add_loads.auto.loads)
