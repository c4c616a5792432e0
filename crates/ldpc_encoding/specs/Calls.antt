-- The conditions on which `ldpc_encode` is turned down, in order.
use Rattle.std.specs.Prelude.{not, List, [], ◌∷◌, ℕ, ◌%◌, eqb, length, get_or}
use Rattle.refusal.specs.Outcome.{Condition, ◌when◌}

-- "input not its fixed length (.. (174,91) 12 bytes ..)", "(174,91) message has a set bit among the low five of byte 11",
-- "an output not exactly its length"
abbrev pub encode_refusals : List ℕ → List ℕ → List Condition
encode_refusals message codeword =
    (4 when not (eqb (length message) 12)) ∷ (6 when not (eqb (get_or message 11 0 % 32) 0)) ∷ (8 when not (eqb (length codeword) 22)) ∷ []
