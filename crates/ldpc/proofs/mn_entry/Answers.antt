-- `ldpc::mn_entry` meets its contract: the constant is the definition's table, by computation.
use mathlib.Core.Path.{refl}
use Rattle.code174.specs.Tables.{mn}
use Rattle.ldpc.proofs.mn_entry.Goals as goal

pub returns : goal.returns
unfolding mn
returns c = refl
