-- `n512r34::message_rows` gives the construction's rows: the constant is the list that was computed.
use Rattle.staircase.proofs.Laid.{rows_right}
use Rattle.n512r34.proofs.Rows.{rows2, built2}
use Rattle.n512r34.proofs.message_rows.Goals as goal

pub returns : goal.returns
unfolding rows2
returns c = rows_right built2
