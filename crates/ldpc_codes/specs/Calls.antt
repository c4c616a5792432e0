-- The outside calls of the staircase codes: when each is refused, and what it answers otherwise.
use Rattle.std.specs.Prelude.{not, List, [], ◌∷◌, ℕ, eqb, ltb, length, take}
use Rattle.refusal.specs.Outcome.{Condition, ◌when◌}
use Rattle.construction.specs.Codes.{Code, block_length}
use Rattle.tanner.specs.Checks.{low_bits, Syndrome, syndrome}
use Rattle.staircase.specs.Staircase.{encoded}
use Rattle.staircase.specs.Codes.{code_of, columns, checks}

-- "4: input not its fixed length (staircase message K ..)", "8: an output not exactly its length" (N bytes)
abbrev pub length_refusals : ℕ → ℕ → List ℕ → List ℕ → List Condition
length_refusals k n message codeword = (4 when not (eqb (length message) k)) ∷ ((8 when not (eqb (length codeword) n)) ∷ [])

-- of a code
abbrev pub code_lengths : Code → List ℕ → List ℕ → List Condition
code_lengths c message codeword = length_refusals c.k (block_length c) message codeword

abbrev pub codeword_of : Code → List ℕ → List ℕ
codeword_of c message = encoded c.m (columns c) message

-- "1: code not 0-2 (staircase call)"
abbrev pub encode_refusals : ℕ → List ℕ → List ℕ → List Condition
encode_refusals code message codeword = (1 when not (ltb code 3)) ∷ code_lengths (code_of code) message codeword

abbrev pub encoded_by : ℕ → List ℕ → List ℕ
encoded_by code message = codeword_of (code_of code) message

-- "5: staircase word to be counted shorter than N"
abbrev pub short_word : Code → List ℕ → List Condition
short_word c hard = (5 when ltb (length hard) (block_length c)) ∷ []

abbrev pub weight_refusals : ℕ → List ℕ → List Condition
weight_refusals code hard = (1 when not (ltb code 3)) ∷ short_word (code_of code) hard

-- "`syndrome_weight` uses low bits, and reads the first N bytes of a longer word."
abbrev pub syndrome_of : Code → List ℕ → Syndrome
syndrome_of c hard = syndrome (checks c) (low_bits (take (block_length c) hard))

abbrev pub syndrome_by : ℕ → List ℕ → Syndrome
syndrome_by code hard = syndrome_of (code_of code) hard
