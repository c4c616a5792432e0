-- `coded::flag_code` meets its contract, case by case. Assumes nothing.
use Rattle.std.proofs.Common.{◌≡◌, ℕ, Bool, true, false, refl, ◌∙◌, ap}
use lib.IntN.{pos}
use mir.Val.{bool_byte}
use Rattle.coded.specs.Coded.{flag}
use Rattle.coded.proofs.Signed.{read_back_lem}
use Rattle.coded.proofs.flag_code.Goals as goal

byte-flag : (b : Bool) → bool_byte b ≡ flag b
byte-flag true = refl
byte-flag false = refl

pub returns-in-Ok : goal.returns-in-Ok
returns-in-Ok c =
    rw c.in-Ok.is
    (read_back_lem (record { sfits = c.value_code.type_inv }) ∙ c.value_code.ensures ∙ ap (λ (n : ℕ). pos n) (c.from.ensures ∙ byte-flag c.in-Ok.yes))

pub returns-in-Err : goal.returns-in-Err
returns-in-Err c = rw c.in-Err.is (read_back_lem (record { sfits = c.refusal_code.type_inv }) ∙ c.refusal_code.ensures)
