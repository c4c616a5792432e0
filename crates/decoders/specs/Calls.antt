-- The outside calls of the decoders: when each is refused, what it answers otherwise, and what it leaves in the memory lent to it.
use Rattle.std.specs.Prelude.{◌≡◌, not, List, [], ◌∷◌, ℕ, Result, eqb, ltb, Float, length}
use Rattle.refusal.specs.Outcome.{Outcome, Condition, ◌when◌, judged, kept}
use Rattle.refusal.specs.Answers.{outcome_by}
use Rattle.refusal.specs.declared.Refusal.{Refusal}
use Rattle.softmath.specs.declared.DecodeRule.TheVariants.{SumProduct, Ft8}
use Rattle.construction.specs.Codes.{block_length}
use Rattle.staircase.specs.Codes.{code_of}
use Rattle.one_round.specs.Round.{Decode}
use Rattle.rounds.specs.Rounds.{chosen_bits}
use Rattle.rounds.specs.Told.{Told, told, told_by}
use Rattle.work_area.specs.Area.{cleared}
use Rattle.rules.specs.Rules.{staircase_rule}
use Rattle.decoders.specs.Decodes.{staircase_decode, ft8_decode}
use Rattle.rounds.specs.declared.Decoded.{Decoded}

-- an answer of a decoder: the count, the rounds run and the first unsatisfied check
abbrev pub decoding_of : Result Decoded Refusal → Outcome Told
decoding_of r = outcome_by told_by r

-- ---- a single decode as it is handed over

pub record Single : Type 0 where
  -- what is decoded, under which limit, and how many bits it gives
  pub decode : Decode
  pub limit : ℕ
  pub size : ℕ
  -- when it is refused, in order
  pub refusals : List Condition
  -- the memory lent
  pub bits : List ℕ
  pub work : List Float

-- what the call answers and leaves: "lent memory is unchanged" where it is refused
pub record Answered (s : Single) (answer : Outcome Told) (bits : List ℕ) (work : List Float) : Type 0 where
  pub tells : answer ≡ judged s.refusals (told s.decode s.limit)
  pub its_bits : bits ≡ kept s.refusals s.bits (chosen_bits s.decode s.limit s.size)
  pub its_work : work ≡ kept s.refusals s.work (cleared s.work)

-- "4: input not its fixed length"; "8: an output not exactly its length"; "9: work area too short"
abbrev pub frame_refusals : ℕ → ℕ → List Float → List ℕ → List Float → List Condition
frame_refusals n k llr bits work = (4 when not (eqb (length llr) n)) ∷ (8 when not (eqb (length bits) k)) ∷ (9 when ltb (length work) 3070) ∷ []

-- "1: code not 0-2 (staircase call)"
abbrev pub soft_refusals : ℕ → List Float → List ℕ → List Float → List Condition
soft_refusals code llr bits work = (1 when not (ltb code 3)) ∷ frame_refusals (block_length (code_of code)) (code_of code).k llr bits work

-- change request N3: "2 when the rule is above 4 .., and 3 when .. another code [comes] with rule 4"
abbrev pub soft_with_refusals : ℕ → ℕ → List Float → List ℕ → List Float → List Condition
soft_with_refusals code rule llr bits work =
    (1 when not (ltb code 3)) ∷ (2 when ltb 4 rule) ∷ (3 when eqb rule 4) ∷ frame_refusals (block_length (code_of code)) (code_of code).k llr bits work

-- `decode_soft_with`: "single decode, K bytes"
abbrev pub soft_with : ℕ → ℕ → Float → ℕ → List Float → List ℕ → List Float → Single
soft_with code rule scale limit llr bits work = record {
  decode = staircase_decode (code_of code) (staircase_rule rule scale) llr;
  limit = limit;
  size = (code_of code).k;
  refusals = soft_with_refusals code rule llr bits work;
  bits = bits;
  work = work;
}

-- `decode_soft`, its shorter wrapper: sum-product
abbrev pub soft : ℕ → ℕ → List Float → List ℕ → List Float → Single
soft code limit llr bits work = record {
  decode = staircase_decode (code_of code) SumProduct llr;
  limit = limit;
  size = (code_of code).k;
  refusals = soft_refusals code llr bits work;
  bits = bits;
  work = work;
}

-- `ldpc_decode_soft`: "all 174 for (174,91)"
abbrev pub ft8_soft : List Float → ℕ → List ℕ → List Float → Single
ft8_soft llr limit plain work = record {
  decode = ft8_decode Ft8 llr;
  limit = limit;
  size = 174;
  refusals = frame_refusals 174 174 llr plain work;
  bits = plain;
  work = work;
}
