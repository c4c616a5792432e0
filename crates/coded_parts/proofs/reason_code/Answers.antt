-- `coded_parts::reason_code` meets its contract, case by case. Assumes nothing.
use mathlib.Core.Path.{refl, ap, ◌∙◌}
use lib.IntN.{pos}
use Rattle.coded.proofs.Signed.{read_back_lem}
use Rattle.coded_parts.proofs.reason_code.Goals as goal

pub returns-in-Ok : goal.returns-in-Ok
returns-in-Ok c = let kind = c in
    let coded = read_back_lem (record { sfits = c.value_code.type_inv }) ∙ c.value_code.ensures ∙ ap pos kind.kind_of.ensures in
    rw c.in-Ok.is (record { its_kind = coded; its_part = kind.part_of.ensures; its_computed = kind.computed_of.ensures })

pub returns-in-Err : goal.returns-in-Err
returns-in-Err c = rw c.in-Err.is
    (record { its_kind = read_back_lem (record { sfits = c.refusal_code.type_inv }) ∙ c.refusal_code.ensures; its_part = refl; its_computed = refl })
