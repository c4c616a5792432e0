-- A message sent and returned: what is said of a frame whose values decide an encoding bit for bit.
use Rattle.std.specs.Prelude.{◌≡◌, List, map, ℕ, Float, length}
use Rattle.tanner.specs.Checks.{none}
use Rattle.lists.specs.Below.{Below}
use Rattle.softmath.specs.Functions.{decide}
use Rattle.one_round.specs.Round.{Decode}
use Rattle.rounds.specs.Rounds.{rounds_run, chosen_count, chosen_first, chosen_bits}
use Rattle.batch.specs.Codes.{size_k, encoding_by}

-- a message of K bits, and values of which every one decides the bit of its encoding
pub record Sent (code : ℕ) (message : List ℕ) (llr : List Float) : Type 0 where
  pub size : length message ≡ size_k code
  pub bits : Below 2 message
  pub decides : map decide llr ≡ encoding_by code message

-- a decode that answers that message, with count 0, after no round
pub record Returned (d : Decode) (limit : ℕ) (message : List ℕ) : Type 0 where
  pub bits : chosen_bits d limit (length message) ≡ message
  pub count : chosen_count d limit ≡ 0
  pub first : chosen_first d limit ≡ none
  pub rounds : rounds_run d limit ≡ 0
