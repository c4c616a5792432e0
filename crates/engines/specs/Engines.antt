-- A decode, a batch and a listing whose checks answer by a given engine (change request N9). With the engine of document 01 they are the decode of
-- `rounds`, the batch of `batch` and the listing of `listing` (`Same.antt`).
use Rattle.std.specs.Prelude.{◌≡◌, List, [], ◌∷◌, map, ℕ, zero, suc, Float, length, take}
use Rattle.refusal.specs.Outcome.{Outcome, judged, kept}
use Rattle.softmath.specs.Single.{one32}
use Rattle.softmath.specs.CheckNode.{check_step}
use Rattle.by_others.specs.Others.{others_sum}
use Rattle.softmath.specs.declared.DecodeRule.{DecodeRule}
use Rattle.softmath.specs.declared.DecodeRule.TheVariants.{SumProduct, MinSum, ScaledMinSum, Ft8}
use Rattle.tanner.specs.Checks.{Word, count, first_unsatisfied, First}
use Rattle.tanner.specs.Flat.{joined}
use Rattle.one_round.specs.Round.{Decode, first_messages, by_check, decided, sent, initial_word}
use Rattle.rounds.specs.Rounds.{unless_done, chosen_from}
use Rattle.work_area.specs.Area.{cleared}
use Rattle.batch.specs.Codes.{size_k}
use Rattle.batch.specs.Calls.{Lent, Batch, refusals, frames, frame_decode}
use Rattle.check_places.specs.Places.{place_of}
use Rattle.batch_input.specs.Handed.{batch_in, input_refusals}
use Rattle.text.specs.Text.{printed}
use Rattle.listing.specs.Listing.{frames_text}

-- ---- engines

-- how a check answers its messages, by each rule
abbrev pub Engine : Type 0
Engine = DecodeRule → List Float → List Float

-- the two minima, "as in the file"
abbrev pub by_minima : Engine
by_minima = check_step

-- "a second engine that, for each entry, goes through the other entries for their least magnitude and their sign", "for both min-sum rules"
unfoldable pub by_others : Engine
by_others SumProduct ms = check_step SumProduct ms
by_others MinSum ms = others_sum one32 ms
by_others (ScaledMinSum scale) ms = others_sum scale ms
by_others Ft8 ms = check_step Ft8 ms

-- ---- a decode by an engine

-- the check step: each check answers its own messages
unfoldable pub answers_by : Engine → Decode → List Float → List Float
answers_by e d ms = joined (map (e d.rule) (by_check d.checks ms))

-- "A round is check step, decision, count, new messages." The words of at most n rounds from these messages.
unfoldable pub words_by : Engine → Decode → ℕ → List Float → List Word
words_by e d zero ms = []
words_by e d (suc n) ms =
    let ans = answers_by e d ms in
    let w = decided d ans in
    let more = words_by e d n (sent d ans) in
    w ∷ unless_done d w more

-- the words of the rounds run
unfoldable pub round_words_by : Engine → Decode → ℕ → List Word
round_words_by e d limit =
    let more = words_by e d limit (first_messages d) in
    unless_done d (initial_word d) more

-- the chosen word
unfoldable pub chosen_by : Engine → Decode → ℕ → Word
chosen_by e d limit = chosen_from d.checks (initial_word d) (round_words_by e d limit)

-- what a decode answers: the chosen word's first k bits, its count, its first unsatisfied check, and the rounds run
unfoldable pub bits_by : Engine → Decode → ℕ → ℕ → List ℕ
bits_by e d limit k = take k (chosen_by e d limit)

unfoldable pub count_by : Engine → Decode → ℕ → ℕ
count_by e d limit = count d.checks (chosen_by e d limit)

unfoldable pub first_by : Engine → Decode → ℕ → First
first_by e d limit = first_unsatisfied d.checks (chosen_by e d limit)

unfoldable pub rounds_by : Engine → Decode → ℕ → ℕ
rounds_by e d limit = length (round_words_by e d limit)

-- ---- a batch by an engine

-- what it writes: its frames' bits, counts, rounds run and first unsatisfied checks, and the work area
unfoldable pub written_by : Engine → Batch → Lent
written_by e b = record {
  bits = joined (map (λ llr. bits_by e (frame_decode b llr) b.limit (size_k b.code)) (frames b));
  counts = map (λ llr. count_by e (frame_decode b llr) b.limit) (frames b);
  rounds = map (λ llr. rounds_by e (frame_decode b llr) b.limit) (frames b);
  firsts = map (λ llr. place_of (first_by e (frame_decode b llr) b.limit)) (frames b);
  work = cleared b.memory.work;
}

-- what a call answers and leaves in the memory lent to it
pub record AnsweredBy (e : Engine) (b : Batch) (answer : Outcome Unit) (left : Lent) : Type 0 where
  pub says : answer ≡ judged (refusals b) tt
  pub leaves : left ≡ kept (refusals b) b.memory (written_by e b)

-- ---- a listing by an engine

-- what the program prints for an input
unfoldable pub listing_by : Engine → List ℕ → List ℕ
listing_by e s = printed (judged (input_refusals s) (frames_text (batch_in s) (written_by e (batch_in s))))
