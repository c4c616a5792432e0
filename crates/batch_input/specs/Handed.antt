-- The batch that an input hands over, and when a program that reads one turns it down.
use Rattle.std.specs.Prelude.{List, ◌∷◌, ℕ, ◌*◌, replicate}
use Rattle.refusal.specs.Outcome.{Condition, ◌when◌}
use Rattle.softmath.specs.Single.{zero32}
use Rattle.batch.specs.Codes.{size_k}
use Rattle.batch.specs.Pairs.{pairs_of}
use Rattle.batch.specs.Calls.{Lent, lent, Batch, batch, refusals}
use Rattle.batch_input.specs.Input.{code_of, rule_of, limit_of, scale_of, pair_count, pair_numbers, values_of, malformed}

-- outputs of exactly their lengths for n frames, and a work area of 3,070
abbrev pub memory_for : ℕ → ℕ → Lent
memory_for code n = lent (replicate (n * size_k code) 0) (replicate n 0) (replicate n 0) (replicate n 0) (replicate 3070 zero32)

abbrev pub batch_in : List ℕ → Batch
batch_in s = batch (code_of s) (rule_of s) (limit_of s) (scale_of s) (values_of s) (pairs_of (pair_numbers s)) (memory_for (code_of s) (pair_count s))

-- "Lowest number first, except that the program tests 13 before all": 13, and then the conditions of the batch
abbrev pub input_refusals : List ℕ → List Condition
input_refusals s = (13 when malformed s) ∷ refusals (batch_in s)
