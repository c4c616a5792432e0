-- What the number of rounds run is (change request N1): "0 if the initial word's count is 0, otherwise the number of the round that reached count 0, or the
-- limit".
use Rattle.std.specs.Prelude.{◌≡◌, List, ℕ, suc, ◌<◌}
use Rattle.tanner.specs.Checks.{Word, Checks, count}
use Rattle.one_round.specs.Round.{Decode, initial_word}
use Rattle.rounds.specs.Rounds.{round_words}
use Rattle.belief.specs.Chosen.{word_at}

-- of a list of words, of which the word at place j is that of round j + 1
pub data StoppedAt (cs : Checks) (limit : ℕ) (ws : List Word) : ℕ → Type 0 where
  -- "the number of the round that reached count 0": the first one that did
  reached : (j : ℕ) → j < limit → count cs (word_at ws j) ≡ 0 → ((i : ℕ) → i < j → count cs (word_at ws i) ≡ 0 → ⊥) → StoppedAt cs limit ws (suc j)
  -- "or the limit": none did
  passed : ((i : ℕ) → i < limit → count cs (word_at ws i) ≡ 0 → ⊥) → StoppedAt cs limit ws limit

pub data RoundsAre (d : Decode) (limit : ℕ) : ℕ → Type 0 where
  -- "0 if the initial word's count is 0"
  none : count d.checks (initial_word d) ≡ 0 → RoundsAre d limit 0
  some : {n : ℕ} → (count d.checks (initial_word d) ≡ 0 → ⊥) → StoppedAt d.checks limit (round_words d limit) n → RoundsAre d limit n
