-- `n512r12::message_rows` gives the construction's rows: the constant is the list that was computed.
use Rattle.staircase.proofs.Laid.{rows_right}
use Rattle.n512r12.proofs.Rows.{rows0, built0}
use Rattle.n512r12.proofs.message_rows.Goals as goal

pub returns : goal.returns
unfolding rows0
returns c = rows_right built0
