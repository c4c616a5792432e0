-- Both engines of min-sum change nothing: no answer, word, bit, count, round or first check, no batch and no listing. The first is the definitions' own; the
-- second equals it, as a function of the rule and the messages, by the law of `softmath`. Assumes nothing.
use mathlib.Core.Path.{◌≡◌, refl, sym, ap, subst, fun_ext, ◌∙◌}
use mathlib.Core.List.{List, map}
use Prim.Native.Nat.{ℕ, zero, suc}
use lib.Ieee.{Float}
use lib.ListN.{length, take}
use Rattle.refusal.specs.Outcome.{judged, kept}
use Rattle.softmath.specs.Single.{one32}
use Rattle.softmath.specs.CheckNode.{check_step}
use Rattle.softmath.specs.declared.DecodeRule.{DecodeRule}
use Rattle.softmath.specs.declared.DecodeRule.TheVariants.{SumProduct, MinSum, ScaledMinSum, Ft8}
use Rattle.by_others.proofs.ByOthers.{same-answers}
use Rattle.tanner.specs.Checks.{Word, count, first_unsatisfied}
use Rattle.tanner.specs.Flat.{joined}
use Rattle.one_round.specs.Round.{Decode, first_messages, answers, sent, initial_word}
use Rattle.rounds.specs.Rounds.{unless_done, words_from, round_words, rounds_run}
use Rattle.rounds.specs.Rounds.{chosen_from, chosen, chosen_count, chosen_first, chosen_bits}
use Rattle.work_area.specs.Area.{cleared}
use Rattle.batch.specs.Codes.{size_k}
use Rattle.batch.specs.Calls.{Lent, Batch, refusals, frames, frame_decode, written}
use Rattle.check_places.specs.Places.{place_of}
use Rattle.batch_input.specs.Handed.{batch_in, input_refusals}
use Rattle.text.specs.Text.{printed}
use Rattle.listing.specs.Listing.{frames_text, listing_of}
use Rattle.engines.specs.Engines.{by_minima, by_others, answers_by, words_by, round_words_by, chosen_by, bits_by, count_by, first_by, rounds_by}
use Rattle.engines.specs.Engines.{written_by, listing_by}
use Rattle.engines.specs.Same.{SameDecode, Same}

-- ---- a decode by the first engine

first-answers : (d : Decode) (ms : List Float) → answers_by by_minima d ms ≡ answers d ms
unfolding answers_by answers
first-answers d ms = refl

first-words : (d : Decode) (n : ℕ) (ms : List Float) → words_by by_minima d n ms ≡ words_from d n ms
unfolding words_by words_from
first-words d zero ms = refl
first-words d (suc n) ms = rw (first-answers d ms, first-words d n (sent d (answers d ms))) refl

module _ (d : Decode) (limit : ℕ) where
  first-rounds : round_words_by by_minima d limit ≡ round_words d limit
  unfolding round_words_by round_words
  first-rounds = ap (λ (ws : List Word). unless_done d (initial_word d) ws) (first-words d limit (first_messages d))

  first-chosen : chosen_by by_minima d limit ≡ chosen d limit
  unfolding chosen_by chosen
  first-chosen = ap (chosen_from d.checks (initial_word d)) first-rounds

  first-bits : (k : ℕ) → bits_by by_minima d limit k ≡ chosen_bits d limit k
  unfolding bits_by chosen_bits
  first-bits k = ap (take k) first-chosen

  first_count : count_by by_minima d limit ≡ chosen_count d limit
  unfolding count_by chosen_count
  first_count = ap (count d.checks) first-chosen

  first-first : first_by by_minima d limit ≡ chosen_first d limit
  unfolding first_by chosen_first
  first-first = ap (first_unsatisfied d.checks) first-chosen

  first_run : rounds_by by_minima d limit ≡ rounds_run d limit
  unfolding rounds_by rounds_run
  first_run = ap length first-rounds

first_decode : (d : Decode) → SameDecode by_minima d
first_decode d = record {
  same_answers = first-answers d;
  same_words = first-rounds d;
  same_chosen = first-chosen d;
  same_bits = first-bits d;
  same_count = first_count d;
  same_rounds = first_run d;
  same_first = first-first d;
}

-- ---- a batch by the first engine

-- a batch's memory, of what its frames answer
abbrev laid : Batch → (List Float → List ℕ) → (List Float → ℕ) → (List Float → ℕ) → (List Float → ℕ) → Lent
laid b bits counts rounds firsts = record {
  bits = joined (map bits (frames b));
  counts = map counts (frames b);
  rounds = map rounds (frames b);
  firsts = map firsts (frames b);
  work = cleared b.memory.work;
}

laid_same : (b : Batch) {p p' : List Float → List ℕ} {q q' r r' s s' : List Float → ℕ}
    → ((llr : List Float) → p llr ≡ p' llr) → ((llr : List Float) → q llr ≡ q' llr)
    → ((llr : List Float) → r llr ≡ r' llr) → ((llr : List Float) → s llr ≡ s' llr)
    → laid b p q r s ≡ laid b p' q' r' s'
laid_same b {p} {p'} {q} {q'} {r} {r'} {s} {s'} bits counts rounds firsts =
    ap (λ (f : List Float → List ℕ). laid b f q r s) (fun_ext bits)
    ∙ ap (λ (f : List Float → ℕ). laid b p' f r s) (fun_ext counts)
    ∙ ap (λ (f : List Float → ℕ). laid b p' q' f s) (fun_ext rounds)
    ∙ ap (λ (f : List Float → ℕ). laid b p' q' r' f) (fun_ext firsts)

first-batch : (b : Batch) → written_by by_minima b ≡ written b
unfolding written_by written
first-batch b =
    laid_same b (λ llr. first-bits (frame_decode b llr) b.limit (size_k b.code)) (λ llr. first_count (frame_decode b llr) b.limit)
    (λ llr. first_run (frame_decode b llr) b.limit) (λ llr. ap place_of (first-first (frame_decode b llr) b.limit))

first-listing : (s : List ℕ) → listing_by by_minima s ≡ listing_of s
unfolding listing_by listing_of
first-listing s = ap (λ (l : Lent). printed (judged (input_refusals s) (frames_text (batch_in s) l))) (first-batch (batch_in s))

pub first_engine : Same by_minima
first_engine = record {
  at_check = λ rule ms. refl;
  in_decode = first_decode;
  in_batch = first-batch;
  as_call = λ b answer left r. record { says = r.says; leaves = r.leaves ∙ ap (kept (refusals b) b.memory) (first-batch b) };
  as_other = λ b answer left r. record { says = r.says; leaves = r.leaves ∙ ap (kept (refusals b) b.memory) (sym (first-batch b)) };
  in_listing = first-listing;
}

-- ---- both engines

both_at_check : (rule : DecodeRule) (ms : List Float) → check_step rule ms ≡ by_others rule ms
unfolding check_step by_others
both_at_check SumProduct ms = refl
both_at_check MinSum ms = same-answers one32 ms
both_at_check (ScaledMinSum scale) ms = same-answers scale ms
both_at_check Ft8 ms = refl

-- as functions they are one
pub one_engine : by_minima ≡ by_others
one_engine = fun_ext (λ rule. fun_ext (both_at_check rule))

-- "the same answer bits at each entry of each check, .. and hence the same bits, counts and rounds"
pub second_engine : Same by_others
second_engine = subst Same one_engine first_engine
