-- `n576r23::message_rows` gives the construction's rows: the constant is the list that was computed.
use Rattle.staircase.proofs.Laid.{rows_right}
use Rattle.n576r23.proofs.Rows.{rows1, built1}
use Rattle.n576r23.proofs.message_rows.Goals as goal

pub returns : goal.returns
unfolding rows1
returns c = rows_right built1
