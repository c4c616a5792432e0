-- The round trip: a frame whose values decide the encoding of a message is decoded to that message, under every rule and limit. The initial word
-- is that encoding, so its count is 0 and no round is run. Assumes nothing.
use mathlib.Core.Path.{◌≡◌, refl, sym, ap, ◌∙◌}
use mathlib.Core.List.{List, [], map}
use Prim.Native.Nat.{ℕ, zero, suc}
use native.Mathlib.Omega.{arith}
use lib.Ieee.{Float}
use lib.ListN.{length, take}
use lib.Seq.{take_at}
use Rattle.tanner.specs.Checks.{count, low_bits}
use Rattle.lists.specs.Below.{Below}
use Rattle.tanner.proofs.First.{count_none}
use Rattle.construction.specs.Codes.{Code}
use Rattle.staircase.specs.Codes.{code_of, columns, checks}
use Rattle.staircase.specs.Staircase.{encoded, parity_bits}
use Rattle.staircase.proofs.EdgeCount.{columns-length}
use Rattle.parities.proofs.Codewords.{count-encoded}
use Rattle.code174.specs.Code174 as ft8
use Rattle.ldpc_encoding.specs.Encoding.{encode_bits}
use Rattle.codewords.proofs.PackedWords.{codewords, encoding-length, encoding-front}
use Rattle.softmath.specs.Functions.{decide}
use Rattle.softmath.specs.declared.DecodeRule.{DecodeRule}
use Rattle.one_round.specs.Round.{Decode, initial_word}
use Rattle.rounds.specs.Rounds.{round_words, chosen_from, chosen, chosen_count, chosen_first, chosen_bits, rounds_run}
use Rattle.batch.specs.Codes.{size_k, decode_by, encoding_by}
use Rattle.batch.specs.RoundTrip.{Sent, Returned}

-- ---- an encoding has count 0, and begins with its message

module _ (message : List ℕ) (bits : Below 2 message) where
  staircase-zero : (c : Code) → length message ≡ c.k → count (checks c) (encoded c.m (columns c) message) ≡ 0
  unfolding checks
  staircase-zero c size = count-encoded c.k c.m (columns c) (omega (arith, columns-length c)) message size bits

  ft8-zero : length message ≡ 91 → count ft8.checks (encode_bits message) ≡ 0
  ft8-zero size =
      codewords.satisfied (encode_bits message) (encoding-length message size) (ap encode_bits (sym (encoding-front message size)))

  encoding-zero : (code : ℕ) (r : DecodeRule) (llr : List Float) → length message ≡ size_k code
      → count (decode_by code r llr).checks (encoding_by code message) ≡ 0
  unfolding decode_by size_k encoding_by
  encoding-zero zero r llr size = staircase-zero (code_of 0) size
  encoding-zero (suc zero) r llr size = staircase-zero (code_of 1) size
  encoding-zero (suc (suc zero)) r llr size = staircase-zero (code_of 2) size
  encoding-zero (suc (suc (suc n))) r llr size = ft8-zero size

staircase-front : (c : Code) (message : List ℕ) → take (length message) (encoded c.m (columns c) message) ≡ message
unfolding encoded
staircase-front c message = take_at message (parity_bits (columns c) (low_bits message) 0 c.m 0) (length message) refl

front : (code : ℕ) (message : List ℕ) → length message ≡ size_k code → take (length message) (encoding_by code message) ≡ message
unfolding size_k encoding_by
front zero message size = staircase-front (code_of 0) message
front (suc zero) message size = staircase-front (code_of 1) message
front (suc (suc zero)) message size = staircase-front (code_of 2) message
front (suc (suc (suc n))) message size = ap (λ (k : ℕ). take k (encode_bits message)) size ∙ encoding-front message size

-- ---- where the initial word has count 0, it is chosen, and no round is run

module _ (d : Decode) (limit : ℕ) (z : count d.checks (initial_word d) ≡ 0) where
  no-round : round_words d limit ≡ []
  unfolding round_words
  no-round = rw z refl

  initial-chosen : chosen d limit ≡ initial_word d
  unfolding chosen chosen_from
  initial-chosen = rw no-round refl

initial_is : (code : ℕ) (r : DecodeRule) (llr : List Float) → initial_word (decode_by code r llr) ≡ map decide llr
unfolding decode_by initial_word
initial_is zero r llr = refl
initial_is (suc zero) r llr = refl
initial_is (suc (suc zero)) r llr = refl
initial_is (suc (suc (suc n))) r llr = refl

-- ---- the round trip, for every code, check step and limit

module _ (code : ℕ) (r : DecodeRule) (limit : ℕ) (message : List ℕ) (llr : List Float) (s : Sent code message llr) where
  abbrev d : Decode
  d = decode_by code r llr

  word : initial_word d ≡ encoding_by code message
  word = initial_is code r llr ∙ s.decides

  zero-count : count d.checks (initial_word d) ≡ 0
  zero-count = ap (count d.checks) word ∙ encoding-zero message s.bits code r llr s.size

  counted : count d.checks (chosen d limit) ≡ 0
  counted = ap (count d.checks) (initial-chosen d limit zero-count) ∙ zero-count

  pub round_trip : Returned d limit message
  unfolding chosen_count chosen_first chosen_bits rounds_run
  round_trip = record {
    bits = ap (take (length message)) (initial-chosen d limit zero-count ∙ word) ∙ front code message s.size;
    count = counted;
    first = count_none d.checks (chosen d limit) counted;
    rounds = ap length (no-round d limit zero-count);
  }
