-- What the calls of this crate answer: the cases of their enums, and the conditions on which each call is turned down, in order.
use Rattle.std.specs.Prelude.{not, List, [], ◌∷◌, ℕ, eqb, ltb, length}
use Rattle.refusal.specs.Outcome.{Condition, ◌when◌}
use Rattle.bits.specs.Bits.{bytes_for}

-- "checksum bits need more bytes than given"
abbrev pub crc14_refusals : List ℕ → ℕ → List Condition
crc14_refusals m n = (4 when ltb (length m) (bytes_for n)) ∷ []

-- "input not its fixed length (.. payload 10, block 12)", "an output not exactly its length"
abbrev pub add_refusals : List ℕ → List ℕ → List Condition
add_refusals payload a91 = (4 when not (eqb (length payload) 10)) ∷ (8 when not (eqb (length a91) 12)) ∷ []

abbrev pub extract_refusals : List ℕ → List Condition
extract_refusals a91 = (4 when not (eqb (length a91) 12)) ∷ []
