-- Demand 3, the promise between two limits: what is said of a frame that two accepted batches hold, of what the calls leave in the lent memory.
-- A call with groups overwrites the bits of some frames afterwards (change request N13): of such a call this is said of its numbers "and of the bits before
-- that overwriting" (`Before`, specs/Promise of `groups`).
use Rattle.std.specs.Prelude.{◌≡◌, List, [], ℕ, ◌*◌, ◌<◌, ◌≤◌, min, Float, length, get_or, take, drop}
use Rattle.softmath.specs.declared.DecodeRule.{DecodeRule}
use Rattle.rules.specs.Rules.{rule_of}
use Rattle.refusal.specs.Outcome.{Outcome, accepted}
use Rattle.tanner.specs.Checks.{Word, count, first_unsatisfied}
use Rattle.one_round.specs.Round.{Decode}
use Rattle.belief.specs.Chosen.{words, FirstLeast}
use Rattle.batch.specs.Codes.{size_k, encoding_by}
use Rattle.batch.specs.Calls.{Lent, Batch, frames, frame_decode, Answered}
use Rattle.check_places.specs.Places.{place_of}

-- a call that was made: what was handed over, what it answered, what it left in the lent memory; by the contract of `decode_batch`, and of every call that
-- has it
pub record Call : Type 0 where
  pub handed : Batch
  pub answer : Outcome Unit
  pub left : Lent
  pub answered : Answered handed answer left

abbrev pub Accepted : Call → Type 0
Accepted c = c.answer ≡ accepted tt

-- the check step that its frames are decoded by
abbrev pub reading : Call → DecodeRule
reading c = rule_of c.handed.code c.handed.rule c.handed.scale

-- how many frames it holds; the values of the frame at place j, and its decode
abbrev pub held : Call → ℕ
held c = length c.handed.pairs

unfoldable pub values_at : Call → ℕ → List Float
values_at c j = get_or (frames c.handed) j []

abbrev pub decode_at : Call → ℕ → Decode
decode_at c j = frame_decode c.handed (values_at c j)

-- what the call left for it: its count, its rounds, its first unsatisfied check, its message bits
abbrev pub count_at : Call → ℕ → ℕ
count_at c j = get_or c.left.counts j 0

abbrev pub rounds_at : Call → ℕ → ℕ
rounds_at c j = get_or c.left.rounds j 0

abbrev pub first_at : Call → ℕ → ℕ
first_at c j = get_or c.left.firsts j 0

abbrev pub bits_at : Call → ℕ → List ℕ
bits_at c j = let k = size_k c.handed.code in take k (drop (j * k) c.left.bits)

-- "the count returned is that of one chosen word among the initial hard word and the words of the rounds run, every other has at least as many
-- unsatisfied checks, every earlier one more, and the bits returned are the chosen word's", and, for all four codes, "the count is 0 exactly when
-- the chosen word is the encoding of the bits returned"
pub record ByChosenWord (c : Call) (j : ℕ) : Type 0 where
  pub word : Word
  pub chosen : FirstLeast (decode_at c j).checks (words (decode_at c j) c.handed.limit) word
  pub its_count : count_at c j ≡ count (decode_at c j).checks word
  pub its_first : first_at c j ≡ place_of (first_unsatisfied (decode_at c j).checks word)
  pub its_bits : bits_at c j ≡ take (size_k c.handed.code) word
  pub encoding : count_at c j ≡ 0 → word ≡ encoding_by c.handed.code (bits_at c j)
  pub satisfied : word ≡ encoding_by c.handed.code (bits_at c j) → count_at c j ≡ 0

-- "two accepted batches of one code, rule and scale with limits a ≤ b that hold one frame bit for bit, anywhere, whatever else they hold"; and
-- "same rule means the same after this reading, scale included" (change request N4)
pub record SameFrame (a b : Call) (i j : ℕ) : Type 0 where
  pub accepted_a : Accepted a
  pub accepted_b : Accepted b
  pub code : a.handed.code ≡ b.handed.code
  pub rule : reading a ≡ reading b
  pub limits : a.handed.limit ≤ b.handed.limit
  pub place_a : i < held a
  pub place_b : j < held b
  pub frame : values_at a i ≡ values_at b j

pub record Promise (a b : Call) (i j : ℕ) : Type 0 where
  -- "its count is no greater under b"
  pub no_greater : count_at b j ≤ count_at a i
  -- "equal counts give equal message bits"; N8: "Equal counts under two limits now give an equal first check as well"
  pub equal_bits : count_at a i ≡ count_at b j → bits_at a i ≡ bits_at b j
  pub equal_first : count_at a i ≡ count_at b j → first_at a i ≡ first_at b j
  -- N1: "the rounds under a are the lesser of a and the rounds under b"; the number "never passes the limit"
  pub lesser_rounds : rounds_at a i ≡ min a.handed.limit (rounds_at b j)
  pub rounds_within_a : rounds_at a i ≤ a.handed.limit
  pub rounds_within_b : rounds_at b j ≤ b.handed.limit
  pub chosen_a : ByChosenWord a i
  pub chosen_b : ByChosenWord b j
