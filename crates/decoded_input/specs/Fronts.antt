-- What lies at the fronts of lent arrays once the batch of an input is decoded.
use Rattle.std.specs.Prelude.{◌≡◌, cond, List, ℕ, ◌*◌, Result, ltb, take}
use Rattle.refusal.specs.Outcome.{Outcome}
use Rattle.refusal.specs.Answers.{outcome_by}
use Rattle.refusal.specs.declared.Refusal.{Refusal}
use Rattle.batch.specs.Codes.{size_k}
use Rattle.batch.specs.Calls.{written}
use Rattle.batch_input.specs.Input.{code_of, pair_count}
use Rattle.batch_input.specs.Handed.{batch_in}
use Rattle.decoded_input.specs.declared.Decoded.{Decoded}

-- how many frames have room in the outputs: of more than 24 none, and the batch refuses them as it refuses all
abbrev pub held : ℕ → ℕ
held n = cond (ltb n 25) n 0

-- how many frames the batch of the input s has, and how many bits they have together
pub record Sizes : Type 0 where
  pub frames : ℕ
  pub bits : ℕ

abbrev pub sizes_of : List ℕ → Sizes
sizes_of s = record { frames = pair_count s; bits = pair_count s * size_k (code_of s) }

abbrev pub sizes_by : Decoded → Sizes
sizes_by d = record { frames = d.frames; bits = d.bits }

abbrev pub decoded_of : Result Decoded Refusal → Outcome Sizes
decoded_of r = outcome_by sizes_by r

-- what it writes: K bits and a number of each kind a frame
pub record Fronts (s bits counts rounds firsts : List ℕ) : Type 0 where
  pub its_bits : take (pair_count s * size_k (code_of s)) bits ≡ (written (batch_in s)).bits
  pub its_counts : take (pair_count s) counts ≡ (written (batch_in s)).counts
  pub its_rounds : take (pair_count s) rounds ≡ (written (batch_in s)).rounds
  pub its_firsts : take (pair_count s) firsts ≡ (written (batch_in s)).firsts
