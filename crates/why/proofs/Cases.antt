-- Answers known beforehand: the definitions yield them, by computing. Assumes nothing.
use mathlib.Core.Path.{◌≡◌, refl}
use mathlib.Core.List.{List, [], ◌∷◌}
use Prim.Native.Nat.{ℕ}
use lib.Ieee.{of_bits, of_fields, is_nan, odd, le, lt, eq}
use lib.ListN.{replicate}
use Rattle.bits.specs.Bits.{number_after}
use Rattle.checksum.specs.Qex.{bring_down, divide, qex}
use Rattle.tanner.specs.Checks.{low_bits, parity, count, first_by}
use Rattle.tanner.specs.Flat.{joined}
use Rattle.code174.specs.Tables.{nm, num_rows}
use Rattle.code174.specs.Code174.{rows_of_seven, checks}
use Rattle.softmath.specs.Functions.{decide}
use Rattle.one_round.specs.Round.{initial_word}
use Rattle.rounds.specs.Rounds.{round_words, chosen_from, chosen}
use Rattle.batch.specs.Codes.{size_n, size_k, decode_by}
use Rattle.batch.specs.Pairs.{pairs_of, frame_of}
use Rattle.batch.specs.Calls.{rule_not_of_code, pair_refusals, refusals_of}
use Rattle.clean.specs.Clean.{checksum_right}
use Rattle.text.specs.Text.{leading, decimal, hex_digit, field, refusal_line}
use Rattle.batch_input.specs.Input.{u32s_from, float_of, pair_numbers, values_of, malformed}
use Rattle.first_reason.specs.declared.Reason.TheVariants.{Nan, Check, Checksum}
use Rattle.numbered.specs.Codes.{checks_by}
use Rattle.first_reason.specs.Reasons.{first_nan, checksum_or, reason_for}
use Rattle.reason.specs.Under.{reason_under}
use Rattle.reason_lines.specs.Lines.{nan_line, pair_text, entry, entries, check_line, checksum_line, clean_line, reason_line}
use Rattle.why.specs.Why.{frame_line, why_of}

-- ---- lines

-- `nan 173`
nan-line : reason_line checks [] (Nan 173) ≡ 110 ∷ 97 ∷ 110 ∷ 32 ∷ 49 ∷ 55 ∷ 51 ∷ 10 ∷ []
unfolding nan_line field decimal leading
nan-line = refl

-- `check 0 3:1 30:1 58:1 90:1 91:1 95:1 152:1`: the first row of `NM`, counted from 0, of a word of ones
check-line : reason_line checks (replicate 174 1) (Check 0) ≡
    99 ∷ 104 ∷ 101 ∷ 99 ∷ 107 ∷ 32 ∷ 48 ∷ 32 ∷ 51 ∷ 58 ∷ 49 ∷ 32 ∷ 51 ∷ 48 ∷ 58 ∷ 49 ∷ 32 ∷ 53 ∷ 56 ∷ 58 ∷ 49 ∷
    32 ∷ 57 ∷ 48 ∷ 58 ∷ 49 ∷ 32 ∷ 57 ∷ 49 ∷ 58 ∷ 49 ∷ 32 ∷ 57 ∷ 53 ∷ 58 ∷ 49 ∷ 32 ∷ 49 ∷ 53 ∷ 50 ∷ 58 ∷ 49 ∷ 10 ∷ []
unfolding check_line entries entry pair_text field decimal leading checks rows_of_seven nm num_rows
check-line = refl

-- `checksum 0000 2bf8`
checksum-line : reason_line checks [] (Checksum 0 0x2bf8) ≡ 99 ∷ 104 ∷ 101 ∷ 99 ∷ 107 ∷ 115 ∷ 117 ∷ 109 ∷ 32 ∷ 48 ∷ 48 ∷ 48 ∷ 48 ∷ 32 ∷ 50 ∷ 98 ∷ 102 ∷ 56 ∷ 10
    ∷ []
unfolding checksum_line hex_digit
checksum-line = refl

-- ---- inputs

-- document 01's sample after a place: code 3, rule 0, limit 20, scale 0, one pair (0, 174), 174 values 1.0
asking : ℕ → List ℕ
asking place =
    place ∷ 0 ∷ 3 ∷ 0 ∷ 20 ∷ 0 ∷ 0 ∷ 0 ∷ 0 ∷ 0 ∷ 1 ∷ 0 ∷ 0 ∷ 0 ∷ 0 ∷ 0 ∷ 0 ∷ 0 ∷ 174 ∷ 0 ∷ 0 ∷ 0
    ∷ joined (replicate 174 (0 ∷ 0 ∷ 0x80 ∷ 0x3f ∷ []))

-- its frame is clean
sample : why_of (asking 0) ≡ 99 ∷ 108 ∷ 101 ∷ 97 ∷ 110 ∷ 10 ∷ []
unfolding asking joined why_of malformed pair_numbers values_of float_of u32s_from size_n size_k refusals_of pair_refusals rule_not_of_code pairs_of frame_of
    frame_line clean_line reason_under reason_for first_nan is_nan of_bits of_fields checks_by checks rows_of_seven nm num_rows first_by parity count
    checksum_or checksum_right low_bits qex divide bring_down number_after decode_by chosen chosen_from initial_word round_words decide odd le lt eq
sample = refl

-- there is no second frame; and of the place alone, cut or not, there is no batch
no_place : why_of (asking 1) ≡ refusal_line 19
unfolding asking joined why_of malformed pair_numbers values_of float_of u32s_from size_n size_k refusals_of pair_refusals rule_not_of_code pairs_of
no_place = refl

cut : (why_of [] ≡ refusal_line 13) × ((why_of (0 ∷ []) ≡ refusal_line 13) × (why_of (0 ∷ 0 ∷ []) ≡ refusal_line 13))
unfolding why_of malformed
cut = (refl, (refl, refl))
