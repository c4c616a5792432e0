-- What a decode answers: what it tells, and the chosen word's first bits.
use Rattle.std.specs.Prelude.{◌≡◌, List, ℕ}
use Rattle.tanner.specs.Checks.{First}
use Rattle.tanner.specs.Found.{first_of}
use Rattle.one_round.specs.Round.{Decode}
use Rattle.rounds.specs.Rounds.{rounds_run, chosen_count, chosen_first, chosen_bits}
use Rattle.rounds.specs.declared.Decoded.{Decoded}

-- what a decode tells beside the bits: the chosen word's count and its first unsatisfied check, and the rounds run
pub record Told : Type 0 where
  pub count : ℕ
  pub rounds : ℕ
  pub first : First

abbrev pub told : Decode → ℕ → Told
told d limit = record { count = chosen_count d limit; rounds = rounds_run d limit; first = chosen_first d limit }

-- what the code's answer tells
abbrev pub told_by : Decoded → Told
told_by r = record { count = r.count; rounds = r.rounds; first = first_of r.first }

-- what a decode answers: what it tells, and the chosen word's first k bits
pub record Chose (d : Decode) (limit k : ℕ) (r : Decoded) (bits : List ℕ) : Type 0 where
  pub tells : told_by r ≡ told d limit
  pub front : bits ≡ chosen_bits d limit k
