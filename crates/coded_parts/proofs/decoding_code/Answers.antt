-- `coded_parts::decoding_code` meets its contract, case by case. Assumes nothing.
use mathlib.Core.Path.{◌∙◌, refl}
use Rattle.coded.proofs.Signed.{read_back_lem}
use Rattle.coded_parts.proofs.decoding_code.Goals as goal

pub returns-in-Ok : goal.returns-in-Ok
returns-in-Ok c =
    rw c.in-Ok.is
    (record { its_count = read_back_lem (record { sfits = c.value_code.type_inv }) ∙ c.value_code.ensures; its_rounds = refl; its_first = c.place_of.ensures })

pub returns-in-Err : goal.returns-in-Err
returns-in-Err c = rw c.in-Err.is
    (record { its_count = read_back_lem (record { sfits = c.refusal_code.type_inv }) ∙ c.refusal_code.ensures; its_rounds = refl; its_first = refl })
