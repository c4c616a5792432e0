-- `coded_parts::listed_code` meets its contract, case by case. Assumes nothing.
use mathlib.Core.Path.{◌∙◌, refl}
use Prim.Native.Nat.{◌<◌, ◌^◌}
use Rattle.coded.proofs.Signed.{long_pos, read_back_lem}
use Rattle.coded_parts.proofs.listed_code.Goals as goal

-- the arm of `Ok`: the number of cycles fits
pub overflow_cast-result : goal.overflow_cast-result
overflow_cast-result c = record { sfits = rw c.in-Ok.is at c.requires }

pub returns-in-Ok : goal.returns-in-Ok
returns-in-Ok c =
    let small : c.in-Ok.listed.cycles < 2 ^ 31 = rw c.in-Ok.is at c.requires in
    rw c.in-Ok.is (record { its_cycles = long_pos c.in-Ok.listed.cycles small; its_relaxed = refl })

pub returns-in-Err : goal.returns-in-Err
returns-in-Err c = rw c.in-Err.is
    (record { its_cycles = read_back_lem (record { sfits = c.refusal_code.type_inv }) ∙ c.refusal_code.ensures; its_relaxed = refl })
