-- Answers known beforehand, computed: document 01's sample adds one frame, which is clean; eleven bytes are malformed; a code 4 is refused as the batch does
-- it.
use mathlib.Core.Path.{◌≡◌, refl}
use mathlib.Core.List.{List, [], ◌∷◌}
use Prim.Native.Nat.{ℕ}
use lib.Ieee.{of_bits, of_fields, is_nan, odd, le, lt, eq}
use lib.ListN.{replicate}
use Rattle.bits.specs.Bits.{number_after}
use Rattle.checksum.specs.Qex.{bring_down, divide, qex}
use Rattle.tanner.specs.Checks.{low_bits, parity, count, first_by}
use Rattle.tanner.specs.Flat.{joined}
use Rattle.code174.specs.Tables.{nm, num_rows}
use Rattle.code174.specs.Code174.{rows_of_seven, checks}
use Rattle.softmath.specs.Functions.{decide}
use Rattle.one_round.specs.Round.{initial_word}
use Rattle.rounds.specs.Rounds.{round_words, chosen_from, chosen, chosen_count, chosen_first, chosen_bits, rounds_run}
use Rattle.refusal.specs.Outcome.{accepted, refused}
use Rattle.batch.specs.Codes.{size_n, size_k, decode_by}
use Rattle.batch.specs.Pairs.{pairs_of, frame_of}
use Rattle.batch.specs.Calls.{rule_not_of_code, pair_refusals, refusals_of, written}
use Rattle.clean.specs.Clean.{any_nan, checksum_right, frame_clean}
use Rattle.batch_input.specs.Input.{u32s_from, float_of, pair_numbers, values_of, malformed}
use Rattle.figures.specs.Totals.{totals_of, nothing_yet}
use Rattle.batch_figures.specs.Results.{frames_from, batch_frames}
use Rattle.input_figures.specs.Added.{input_added}

-- code, rule 0, limit 20, scale 0, one pair (0, 174), 174 values 1.0
sample : ℕ → List ℕ
sample code =
    code ∷ 0 ∷ 20 ∷ 0 ∷ 0 ∷ 0 ∷ 0 ∷ 0 ∷ 1 ∷ 0 ∷ 0 ∷ 0 ∷ 0 ∷ 0 ∷ 0 ∷ 0 ∷ 174 ∷ 0 ∷ 0 ∷ 0
    ∷ joined (replicate 174 (0 ∷ 0 ∷ 0x80 ∷ 0x3f ∷ []))

one_clean : input_added nothing_yet (sample 3) ≡ accepted (record { frames = 1; clean = 1; counts = 0; rounds = 0 })
unfolding input_added sample joined batch_frames frames_from totals_of frame_clean any_nan is_nan checksum_right low_bits qex divide bring_down
    number_after pair_numbers
    values_of float_of u32s_from malformed size_n size_k refusals_of pair_refusals pairs_of
    frame_of written decode_by chosen chosen_count chosen_first chosen_bits chosen_from initial_word round_words rounds_run first_by parity count
    checks rows_of_seven nm
    num_rows decide of_bits of_fields odd le lt eq rule_not_of_code
one_clean = refl

not_counted : (input_added nothing_yet (replicate 11 0) ≡ refused 13) × (input_added nothing_yet (sample 4) ≡ refused 1)
unfolding input_added sample joined malformed refusals_of pair_refusals pair_numbers pairs_of u32s_from
not_counted = (refl, refl)
