-- `ldpc::first_word` meets its contract: the table lent is `NM`. Assumes nothing.
use Rattle.code174.specs.Tables.{nm}
use Rattle.ldpc.proofs.Sevens.{nm-whole}
use Rattle.ldpc.proofs.first_word.Goals as goal

pub first_row-requires : goal.first_row-requires
unfolding nm
first_row-requires c = nm-whole _ c.requires

pub returns : goal.returns
unfolding nm
returns c = c.first_row.ensures
