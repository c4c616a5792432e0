-- The rounds as the code runs them: what is kept of the words so far.
use Rattle.std.specs.Prelude.{◌≡◌, List, ℕ, Float, length, take}
use Rattle.tanner.specs.Checks.{Checks, Word, syndrome}
use Rattle.tanner.specs.Found.{syndrome_of}
use Rattle.tanner.specs.declared.Counted.{Counted}
use Rattle.one_round.specs.Round.{Decode}
use Rattle.rounds.specs.Rounds.{words_from, chosen_from}
use Rattle.rounds.specs.declared.Decoded.{Decoded}

-- what is kept of a word: its first k bits, its count and its first unsatisfied check
pub record Kept (cs : Checks) (k : ℕ) (word : Word) (bits : List ℕ) (kept : Counted) : Type 0 where
  pub front : bits ≡ take k word
  pub counted : syndrome_of kept ≡ syndrome cs word

-- the count and the first unsatisfied check of what a decode answers
abbrev pub counted_of : Decoded → Counted
counted_of r = record { count = r.count; first = r.first }

-- after at most `limit` rounds from the messages ms, before which the word `start` was kept: what is kept then, and how many rounds were run
pub record Ran (d : Decode) (k limit : ℕ) (start : Word) (ms : List Float) (bits : List ℕ) (r : Decoded) : Type 0 where
  pub kept : Kept d.checks k (chosen_from d.checks start (words_from d limit ms)) bits (counted_of r)
  pub rounds : r.rounds ≡ length (words_from d limit ms)
