-- What a batch is refused for, and in what order (document 01, "The batch"): the numbers and the lengths, and then the pairs.
use Rattle.std.specs.Prelude.{Bool, not, cond, ◌||◌, List, [], ◌∷◌, ◌++◌, ℕ, ◌+◌, ◌*◌, eqb, ltb, length}
use Rattle.refusal.specs.Outcome.{Condition, ◌when◌}
use Rattle.numbered.specs.Codes.{size_n, size_k}
use Rattle.batch_refusals.specs.Pairs.{Pair}
use Rattle.batch_refusals.specs.declared.Room.{Room}

-- "10: pair length not N", "11: offset below the end of the pair before", "12: pair ends past the values"
abbrev pub pair_tests : ℕ → ℕ → ℕ → Pair → List Condition
pair_tests n values end p =
    (10 when not (eqb p.size n))
    ∷ (11 when ltb p.offset end)
    ∷ (12 when ltb values (p.offset + p.size))
    ∷ []

-- "tested pair by pair". `end` is the end of the pair before, 0 at the first pair.
unfoldable pub pair_refusals : ℕ → ℕ → ℕ → List Pair → List Condition
pair_refusals n values end [] = []
pair_refusals n values end (p ∷ ps) = pair_tests n values end p ++ pair_refusals n values (p.offset + p.size) ps

-- change request N3: "3 when code 3 comes with rule 1 or 2 or another code with rule 4"
unfoldable pub rule_not_of_code : ℕ → ℕ → Bool
rule_not_of_code code rule = cond (eqb code 3) (eqb rule 1 || eqb rule 2) (eqb rule 4)

-- 1 code not 0-3, 2 rule above 4, 3 a rule not of the code, 7 over 24 pairs, 8 an output not exactly its length ("pairs times K bytes
-- and one count place a pair"; N1 and N8: one place a pair), 9 work area too short
abbrev pub head_refusals : ℕ → ℕ → ℕ → Room → List Condition
head_refusals code rule pairs room =
    (1 when ltb 3 code)
    ∷ (2 when ltb 4 rule)
    ∷ (3 when rule_not_of_code code rule)
    ∷ (7 when ltb 24 pairs)
    ∷ (8 when not (eqb room.bits (pairs * size_k code)))
    ∷ (8 when not (eqb room.counts pairs))
    ∷ (8 when not (eqb room.rounds pairs))
    ∷ (8 when not (eqb room.firsts pairs))
    ∷ (9 when ltb room.work 3070)
    ∷ []

-- "Lowest number first": these, and then the pairs, which name parts of so many values
unfoldable pub refusals_of : ℕ → ℕ → ℕ → List Pair → Room → List Condition
refusals_of code rule values pairs room = head_refusals code rule (length pairs) room ++ pair_refusals (size_n code) values 0 pairs
