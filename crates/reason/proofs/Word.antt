-- The word that a decode writes where N places are lent is the chosen word, whole, and the first unsatisfied check that it tells is that word's in the
-- checks of the code: by cases on the code. Assumes nothing.
use mathlib.Core.Path.{◌≡◌, refl, ap, ◌∙◌}
use mathlib.Core.List.{List}
use Prim.Native.Nat.{ℕ, zero, suc}
use native.Mathlib.Omega.{arith}
use lib.Ieee.{Float}
use lib.ListN.{length, take}
use lib.Seq.{take_all}
use Rattle.tanner.specs.Checks.{Word, Checks, first_unsatisfied}
use Rattle.tanner.specs.Found.{first_of}
use Rattle.softmath.specs.declared.DecodeRule.{DecodeRule}
use Rattle.rules.specs.Rules.{rule_of}
use Rattle.one_round.specs.Round.{Decode}
use Rattle.rounds.specs.Rounds.{chosen, chosen_first, chosen_bits}
use Rattle.rounds.specs.Told.{Told, Chose}
use Rattle.rounds.specs.declared.Decoded.{Decoded}
use Rattle.batch.specs.Codes.{size_k, decode_by, decode_of}
use Rattle.batch.proofs.Promise.{chosen-proper, llr_is}
use Rattle.first_reason.specs.declared.Reason.TheVariants.{Clean}
use Rattle.numbered.specs.Codes.{checks_by}
use Rattle.first_reason.specs.Reasons.{first_nan, nan_or, check_or, checksum_or}
use Rattle.first_reason.proofs.Answers.{reason-met}
use Rattle.reason.specs.Under.{reason_under}

pub checks_are : (code : ℕ) (r : DecodeRule) (llr : List Float) → (decode_by code r llr).checks ≡ checks_by code
unfolding decode_by checks_by
checks_are zero r llr = refl
checks_are (suc zero) r llr = refl
checks_are (suc (suc zero)) r llr = refl
checks_are (suc (suc (suc n))) r llr = refl

module _ (code rule : ℕ) (scale : Float) (values : List Float) (limit : ℕ) where
  abbrev d : Decode
  d = decode_of code rule scale values

  pub word-length : length (chosen d limit) ≡ length values
  word-length = (chosen-proper d limit).long ∙ llr_is code (rule_of code rule scale) values

  module _ (r : Decoded) (k : ℕ) (word : Word) (chose : Chose d limit k r word) (all : k ≡ length values) where
    pub word-whole : word ≡ chosen d limit
    unfolding chosen_bits
    word-whole = chose.front ∙ take_all k (chosen d limit) (omega (arith, word-length))

    first-is : first_of r.first ≡ first_unsatisfied (checks_by code) (chosen d limit)
    unfolding chosen_first
    first-is =
        ap (λ (t : Told). t.first) chose.tells
        ∙ ap (λ (cs : Checks). first_unsatisfied cs (chosen d limit)) (checks_are code (rule_of code rule scale) values)

    pub reason-is : nan_or (first_nan 0 values) (check_or (first_of r.first) (checksum_or code (take (size_k code) word) Clean))
        ≡ reason_under code rule scale values limit
    unfolding reason_under
    reason-is = rw word-whole (reason-met code r.first values (chosen d limit) first-is)
