-- `ldpc::nm_entry` meets its contract: the constant is the definition's table, by computation.
use mathlib.Core.Path.{refl}
use Rattle.code174.specs.Tables.{nm}
use Rattle.ldpc.proofs.nm_entry.Goals as goal

pub returns : goal.returns
unfolding nm
returns c = refl
