-- The conditions on which `ldpc_count_errors` is turned down, in order.
use Rattle.std.specs.Prelude.{not, List, [], ◌∷◌, ℕ, eqb, length}
use Rattle.refusal.specs.Outcome.{Condition, ◌when◌}

-- "input not its fixed length (.. (174,91) .. 174 values or bits ..)"
abbrev pub count_refusals : List ℕ → List Condition
count_refusals hard = (4 when not (eqb (length hard) 174)) ∷ []
