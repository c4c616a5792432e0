-- What it is to be the chosen word: the first of the least count among the words of a decode.
use Rattle.std.specs.Prelude.{◌≡◌, List, [], ◌∷◌, ℕ, ◌<◌, ◌≤◌, length, get_or}
use Rattle.tanner.specs.Checks.{Word, Checks, count}
use Rattle.one_round.specs.Round.{Decode, initial_word}
use Rattle.rounds.specs.Rounds.{round_words}

-- "the initial hard word and the words of the rounds run"
abbrev pub words : Decode → ℕ → List Word
words d limit = initial_word d ∷ round_words d limit

-- the word at place i
abbrev pub word_at : List Word → ℕ → Word
word_at ws i = get_or ws i []

-- "one chosen word among [them], every other has at least as many unsatisfied checks, every earlier one more"
pub record FirstLeast (cs : Checks) (ws : List Word) (v : Word) : Type 0 where
  pub place : ℕ
  pub inside : place < length ws
  pub there : word_at ws place ≡ v
  pub least : (j : ℕ) → j < length ws → count cs v ≤ count cs (word_at ws j)
  pub first : (j : ℕ) → j < place → count cs v < count cs (word_at ws j)
