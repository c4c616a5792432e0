-- `ldpc::num_rows_entry` meets its contract: the constant is the definition's table, by computation.
use mathlib.Core.Path.{refl}
use Rattle.code174.specs.Tables.{num_rows}
use Rattle.ldpc.proofs.num_rows_entry.Goals as goal

pub returns : goal.returns
unfolding num_rows
returns c = refl
