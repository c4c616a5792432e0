-- Document 01's sample and a few texts: the definitions yield them, by computing. Assumes nothing.
use mathlib.Core.Path.{◌≡◌, refl}
use mathlib.Core.Bool.{true, false}
use mathlib.Core.List.{List, [], ◌∷◌}
use Prim.Native.Nat.{ℕ}
use lib.Ieee.{of_bits, of_fields, is_nan, odd, le, lt, eq}
use lib.ListN.{replicate}
use Rattle.bits.specs.Bits.{number_after}
use Rattle.checksum.specs.Qex.{bring_down, divide, qex}
use Rattle.tanner.specs.Checks.{low_bits, parity, count, first_by}
use Rattle.tanner.specs.Flat.{joined}
use Rattle.code174.specs.Tables.{nm, num_rows}
use Rattle.code174.specs.Code174.{rows_of_seven, checks}
use Rattle.softmath.specs.Functions.{decide}
use Rattle.one_round.specs.Round.{initial_word}
use Rattle.rounds.specs.Rounds.{round_words, chosen_from, chosen, chosen_count, chosen_first, chosen_bits, rounds_run}
use Rattle.batch.specs.Codes.{size_n, size_k, decode_by}
use Rattle.batch.specs.Pairs.{pairs_of, frame_of}
use Rattle.batch.specs.Calls.{rule_not_of_code, pair_refusals, refusals_of, written}
use Rattle.clean.specs.Clean.{any_nan, checksum_right, frame_clean}
use Rattle.text.specs.Text.{leading, decimal, byte_at, hex_digit, hex_from, hex, field, refusal_line}
use Rattle.one_line.specs.Line.{head_line, clean_or_open, first_field, frame_line}
use Rattle.lines.specs.Lines.{lines_from}
use Rattle.batch_input.specs.Input.{u32s_from, float_of, pair_numbers, values_of, malformed}
use Rattle.listing.specs.Listing.{frames_text, listing_of}

-- Document 01's sample: code 3, rule 0, limit 20, scale 0, one pair (0, 174), 174 values 1.0.
unfoldable pub sample : List ℕ
sample =
    3 ∷ 0 ∷ 20 ∷ 0 ∷ 0 ∷ 0 ∷ 0 ∷ 0 ∷ 1 ∷ 0 ∷ 0 ∷ 0 ∷ 0 ∷ 0 ∷ 0 ∷ 0 ∷ 174 ∷ 0 ∷ 0 ∷ 0
    ∷ joined (replicate 174 (0 ∷ 0 ∷ 0x80 ∷ 0x3f ∷ []))

-- document 01: it "prints exactly" these two lines, the second beginning `0 0 0 clean` since change request N1
pub sample_listing : listing_of sample ≡
    99 ∷ 111 ∷ 100 ∷ 101 ∷ 32 ∷ 51 ∷ 32 ∷ 114 ∷ 117 ∷ 108 ∷ 101 ∷ 32 ∷ 48 ∷ 32 ∷ 108 ∷ 105 ∷ 109 ∷ 105 ∷ 116 ∷ 32 ∷ 50 ∷ 48 ∷ 32 ∷ 102 ∷
    114 ∷ 97 ∷ 109 ∷ 101 ∷ 115 ∷ 32 ∷ 49 ∷ 10 ∷ 48 ∷ 32 ∷ 48 ∷ 32 ∷ 48 ∷ 32 ∷ 99 ∷ 108 ∷ 101 ∷ 97 ∷ 110 ∷ 32 ∷ 48 ∷ 48 ∷ 48 ∷ 48 ∷
    48 ∷ 48 ∷ 48 ∷ 48 ∷ 48 ∷ 48 ∷ 48 ∷ 48 ∷ 48 ∷ 48 ∷ 48 ∷ 48 ∷ 48 ∷ 48 ∷ 48 ∷ 48 ∷ 48 ∷ 48 ∷ 48 ∷ 48 ∷ 10 ∷ []
unfolding sample joined listing_of frames_text head_line field decimal leading lines_from frame_line clean_or_open first_field frame_clean any_nan
    is_nan checksum_right
    low_bits qex divide bring_down number_after hex hex_from hex_digit byte_at pair_numbers values_of float_of u32s_from malformed size_n size_k
    refusals_of pair_refusals
    pairs_of frame_of written decode_by chosen chosen_count chosen_first chosen_bits chosen_from initial_word round_words rounds_run first_by parity
    count checks
    rows_of_seven nm num_rows decide of_bits of_fields odd le lt eq rule_not_of_code
sample_listing = refl

-- `refused 13`
refusal-line : refusal_line 13 ≡ 114 ∷ 101 ∷ 102 ∷ 117 ∷ 115 ∷ 101 ∷ 100 ∷ 32 ∷ 49 ∷ 51 ∷ 10 ∷ []
unfolding refusal_line field decimal leading
refusal-line = refl

-- the largest u16
largest : decimal 65535 ≡ 54 ∷ 53 ∷ 53 ∷ 51 ∷ 53 ∷ []
unfolding decimal leading
largest = refl

-- nine bits, 101000001, are the bytes a0 and 80
nine_bits : hex (1 ∷ 0 ∷ 1 ∷ 0 ∷ 0 ∷ 0 ∷ 0 ∷ 0 ∷ 1 ∷ []) ≡ 97 ∷ 48 ∷ 56 ∷ 48 ∷ []
unfolding hex hex_from hex_digit byte_at
nine_bits = refl

-- 11 bytes are malformed; the sample's header with no pair is not, and with a pair that is missing it is
header : ℕ → List ℕ
header pairs = 3 ∷ 0 ∷ 20 ∷ 0 ∷ 0 ∷ 0 ∷ 0 ∷ 0 ∷ pairs ∷ 0 ∷ 0 ∷ 0 ∷ []

eleven : malformed (replicate 11 0) ≡ true
unfolding malformed
eleven = refl

no_pair : malformed (header 0) ≡ false
unfolding malformed header
no_pair = refl

pair_missing : malformed (header 1) ≡ true
unfolding malformed header
pair_missing = refl
