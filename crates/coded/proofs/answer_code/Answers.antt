-- `coded::answer_code` meets its contract, case by case. Assumes nothing.
use mathlib.Core.Path.{◌∙◌}
use Rattle.coded.proofs.Signed.{read_back_lem}
use Rattle.coded.proofs.answer_code.Goals as goal

pub returns-in-Ok : goal.returns-in-Ok
returns-in-Ok c = rw c.in-Ok.is (read_back_lem (record { sfits = c.value_code.type_inv }) ∙ c.value_code.ensures)

pub returns-in-Err : goal.returns-in-Err
returns-in-Err c = rw c.in-Err.is (read_back_lem (record { sfits = c.refusal_code.type_inv }) ∙ c.refusal_code.ensures)
