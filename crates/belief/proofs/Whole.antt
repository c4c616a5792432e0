-- The decode put together: the initial word with its count and front, and the rounds where it does not satisfy every check. Assumes nothing.
use Rattle.std.proofs.Common.{None}
use mathlib.Core.Path.{◌≡◌, refl, sym, ap, ap₂, subst, ◌∙◌}
use mathlib.Core.List.{List, map}
use Prim.Native.Nat.{ℕ}
use lib.Ieee.{Float}
use lib.ListN.{take}
use Rattle.softmath.specs.Functions.{decide}
use Rattle.softmath.specs.declared.DecodeRule.{DecodeRule}
use Rattle.tanner.specs.Checks.{Word, count, Syndrome}
use Rattle.tanner.specs.Masked.{syndrome_masked}
use Rattle.tanner.specs.Found.{syndrome_of}
use Rattle.tanner.specs.declared.Counted.{Counted}
use Rattle.lists.specs.Below.{Below}
use Rattle.tanner.proofs.First.{both, count_none}
use Rattle.passes.specs.Codes.{checks_by}
use Rattle.one_round.specs.Round.{Decode, initial_word, first_messages}
use Rattle.one_round.specs.Held.{HeldBy, decode_at}
use Rattle.one_round.proofs.BitWords.{initial_bits, masked_word}
use Rattle.rounds.specs.Told.{Chose}
use Rattle.rounds.specs.Run.{Kept, Ran}
use Rattle.rounds.specs.declared.Decoded.{Decoded}
use Rattle.rounds.proofs.Loop.{none-run, some-run}

module _ (code : ℕ) (rule : DecodeRule) (llr : List Float) where
  abbrev d : Decode
  d = decode_at code rule llr

  pub initial_is : (hard : Word) → hard ≡ map decide llr → hard ≡ initial_word d
  unfolding initial_word
  initial_is hard e = e

  pub initial-kept : (hard : Word) (bits : List ℕ) (k n : ℕ) (found : Counted)
      → hard ≡ map decide llr → syndrome_of found ≡ syndrome_masked 1 (checks_by code) hard → bits ≡ take n hard → n ≡ k
      → Kept (checks_by code) k hard bits found
  initial-kept hard bits k n found h c b e = record {
    front = rw e at b;
    counted = c ∙ masked_word (checks_by code) hard (subst (λ (w : Word). Below 2 w) (sym (initial_is hard h)) (initial_bits d));
  }

  module _ (k limit : ℕ) (hard : Word) (e : hard ≡ initial_word d) where
    pub run_none : (bits : List ℕ) (first : Counted) → first.count ≡ 0 → Kept (checks_by code) k hard bits first
        → Chose d limit k (record { count = 0; rounds = 0; first = None }) bits
    run_none bits first z h =
        let none_left = count_none (checks_by code) hard (sym (ap (λ (s : Syndrome). s.count) h.counted) ∙ z) in
        let kept : Kept (checks_by code) k hard bits (record { count = 0; first = None }) =
        record { front = h.front; counted = ap₂ both (sym z ∙ ap (λ (s : Syndrome). s.count) h.counted) (sym none_left) }
        in
        none-run d k limit bits _ refl (rw e at kept) refl

    pub run-some : (old bits : List ℕ) (first : Counted) (r : Decoded) (w : List Float) → (first.count ≡ 0 → ⊥) → Kept (checks_by code) k hard old first
        → HeldBy code w (first_messages d) → ((ms : List Float) → HeldBy code w ms → Ran d k limit hard ms bits r) → Chose d limit k r bits
    run-some old bits first r w n h held ran =
        some-run d k limit bits r first.count n (ap (λ (s : Syndrome). s.count) h.counted ∙ ap (count (checks_by code)) e)
        (rw e at (ran (first_messages d) held))
