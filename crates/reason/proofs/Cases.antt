-- Answers known beforehand of decoded frames of (174,91): the definitions yield them, by computing. Assumes nothing.
use mathlib.Core.Path.{◌≡◌, refl}
use mathlib.Core.List.{List}
use lib.Ieee.{Float, binary32, of_bits, of_fields, neg, is_nan, odd, le, lt, eq}
use lib.ListN.{replicate}
use Rattle.bits.specs.Bits.{number_after}
use Rattle.checksum.specs.Qex.{bring_down, divide, qex}
use Rattle.tanner.specs.Checks.{low_bits, parity, count, first_by}
use Rattle.code174.specs.Tables.{nm, num_rows}
use Rattle.code174.specs.Code174.{rows_of_seven, checks}
use Rattle.softmath.specs.Single.{zero32}
use Rattle.softmath.specs.Functions.{decide}
use Rattle.one_round.specs.Round.{initial_word}
use Rattle.rounds.specs.Rounds.{round_words, words_from, chosen_from, chosen}
use Rattle.batch.specs.Codes.{size_k, decode_by}
use Rattle.clean.specs.Clean.{checksum_right}
use Rattle.first_reason.specs.declared.Reason.TheVariants.{Check, Clean}
use Rattle.numbered.specs.Codes.{checks_by}
use Rattle.first_reason.specs.Reasons.{first_nan, checksum_or, reason_for}
use Rattle.reason.specs.Under.{reason_under}

-- 174 values 1.0
abbrev ones : List Float
ones = replicate 174 (of_bits binary32 0x3f800000)

-- document 01's sample, and its frame of -0.0, which decides all ones
sample : reason_under 3 0 zero32 ones 20 ≡ Clean
unfolding reason_under reason_for first_nan is_nan of_bits of_fields checks_by checks rows_of_seven nm num_rows first_by parity count checksum_or size_k
    checksum_right low_bits qex divide bring_down number_after decode_by chosen chosen_from initial_word round_words words_from decide odd le lt eq
sample = refl

minus_zeros : reason_under 3 0 zero32 (replicate 174 (neg zero32)) 0 ≡ Check 0
unfolding reason_under reason_for first_nan is_nan of_bits of_fields checks_by checks rows_of_seven nm num_rows first_by parity count checksum_or size_k
    decode_by chosen chosen_from initial_word round_words words_from decide odd le lt eq neg
minus_zeros = refl
