-- `desklink::totals::desklink_mean_count_unguarded` meets its contract: the answer of the call beneath, told as numbers. Assumes nothing.
use Rattle.coded.proofs.Signed.{read_back_lem}
use Rattle.desklink.proofs.Figures.{writes_told}
use Rattle.desklink.proofs.totals.desklink_mean_count_unguarded.Goals as goal

pub returns : goal.returns
returns c = writes_told c.mean_count.ensures c.figure_code.ensures (read_back_lem (record { sfits = c.figure_code.type_inv }))
