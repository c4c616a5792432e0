-- `coded_figures::summed_code` meets its contract, case by case. Assumes nothing.
use mathlib.Core.Path.{refl, ◌∙◌}
use Rattle.coded.proofs.Signed.{read_back_lem}
use Rattle.coded_figures.proofs.summed_code.Goals as goal

pub returns-in-Ok : goal.returns-in-Ok
returns-in-Ok c = rw c.in-Ok.is (record { says = refl; leaves = refl })

pub returns-in-Err : goal.returns-in-Err
returns-in-Err c = rw c.in-Err.is
    (record { says = read_back_lem (record { sfits = c.refusal_code.type_inv }) ∙ c.refusal_code.ensures; leaves = refl })
