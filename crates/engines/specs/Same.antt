-- What it is for an engine to change nothing (change request N9): "the same answer bits at each entry of each check, for both min-sum rules, apart from
-- NaN payloads, and hence the same bits, counts and rounds". Equality of floats is equality of their bits apart from NaN payloads.
use Rattle.std.specs.Prelude.{◌≡◌, List, ℕ, Float}
use Rattle.refusal.specs.Outcome.{Outcome}
use Rattle.softmath.specs.CheckNode.{check_step}
use Rattle.softmath.specs.declared.DecodeRule.{DecodeRule}
use Rattle.one_round.specs.Round.{Decode, answers}
use Rattle.rounds.specs.Rounds.{round_words, rounds_run, chosen, chosen_count, chosen_first, chosen_bits}
use Rattle.batch.specs.Calls.{Lent, Batch, written, Answered}
use Rattle.listing.specs.Listing.{listing_of}
use Rattle.engines.specs.Engines.{Engine, answers_by, round_words_by, chosen_by, bits_by, count_by, first_by, rounds_by, written_by, AnsweredBy, listing_by}

-- of a decode: any checks, rule, kind of new messages and values
pub record SameDecode (e : Engine) (d : Decode) : Type 0 where
  -- "the same answer bits at each entry of each check", of any messages
  pub same_answers : (ms : List Float) → answers_by e d ms ≡ answers d ms
  -- the word of each round, and the chosen one, under any limit
  pub same_words : (limit : ℕ) → round_words_by e d limit ≡ round_words d limit
  pub same_chosen : (limit : ℕ) → chosen_by e d limit ≡ chosen d limit
  -- "the same bits, counts and rounds", and the same first unsatisfied check
  pub same_bits : (limit k : ℕ) → bits_by e d limit k ≡ chosen_bits d limit k
  pub same_count : (limit : ℕ) → count_by e d limit ≡ chosen_count d limit
  pub same_rounds : (limit : ℕ) → rounds_by e d limit ≡ rounds_run d limit
  pub same_first : (limit : ℕ) → first_by e d limit ≡ chosen_first d limit

pub record Same (e : Engine) : Type 0 where
  -- at each check
  pub at_check : (rule : DecodeRule) (ms : List Float) → e rule ms ≡ check_step rule ms
  pub in_decode : (d : Decode) → SameDecode e d
  -- in a batch, all that it writes; and a call that keeps to the one keeps to the other
  pub in_batch : (b : Batch) → written_by e b ≡ written b
  pub as_call : (b : Batch) (answer : Outcome Unit) (left : Lent) → AnsweredBy e b answer left → Answered b answer left
  pub as_other : (b : Batch) (answer : Outcome Unit) (left : Lent) → Answered b answer left → AnsweredBy e b answer left
  -- "the listing does not show which"
  pub in_listing : (s : List ℕ) → listing_by e s ≡ listing_of s
