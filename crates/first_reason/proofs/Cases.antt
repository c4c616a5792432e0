-- Answers known beforehand, for (174,91): the definitions yield them, by computing. Assumes nothing.
use mathlib.Core.Path.{◌≡◌, refl}
use mathlib.Core.List.{List, [], ◌∷◌, ◌++◌}
use lib.Ieee.{Float, binary32, of_bits, of_fields, nan, is_nan}
use lib.ListN.{replicate}
use Rattle.bits.specs.Bits.{bits_of, bits, number_after}
use Rattle.checksum.specs.Qex.{bring_down, divide, qex}
use Rattle.tanner.specs.Checks.{Word, low_bits, parity, first_by}
use Rattle.code174.specs.Tables.{nm, num_rows}
use Rattle.code174.specs.Code174.{rows_of_seven, checks}
use Rattle.ldpc_encoding.specs.Tables.{generator}
use Rattle.ldpc_encoding.specs.Encoding.{under, rows_of_twelve, parity_bits, encode_bits}
use Rattle.numbered.specs.Codes.{size_k}
use Rattle.clean.specs.Clean.{checksum_right}
use Rattle.first_reason.specs.declared.Reason.{Reason}
use Rattle.first_reason.specs.declared.Reason.TheVariants.{Nan, Check, Checksum, Clean}
use Rattle.numbered.specs.Codes.{checks_by}
use Rattle.first_reason.specs.Reasons.{first_nan, checksum_or, reason_for}

-- 174 values 1.0, and what they and a word come to
abbrev ones : List Float
ones = replicate 174 (of_bits binary32 0x3f800000)

by_word : Word → Reason
by_word w = reason_for 3 ones w

-- all zeros is a codeword with the right checksum; of all ones each check of 7 entries is unsatisfied, and check 0 is one; `MN` names checks 16, 45 and 73
-- for position 1, so that check 15 is the lowest of position 0, both counted from 0; the encoding of message bit 0 alone carries 0, and not 0x2bf8
words : (by_word (replicate 174 0) ≡ Clean)
    × ((by_word (replicate 174 1) ≡ Check 0)
    × ((by_word (1 ∷ replicate 173 0) ≡ Check 15)
    × (by_word (encode_bits (1 ∷ replicate 90 0)) ≡ Checksum 0 0x2bf8)))
unfolding by_word encode_bits parity_bits rows_of_twelve under bits bits_of generator reason_for first_nan is_nan of_bits of_fields checks_by checks
    rows_of_seven nm num_rows first_by parity checksum_or size_k checksum_right low_bits qex divide bring_down number_after
words = (refl, (refl, (refl, refl)))

-- a NaN in the last place, of a word that is open too; and NaN everywhere
last_nan : reason_for 3 (replicate 173 (of_bits binary32 0x3f800000) ++ (nan ∷ [])) (replicate 174 1) ≡ Nan 173
unfolding reason_for first_nan is_nan of_bits of_fields
last_nan = refl

all-nan : reason_for 3 (replicate 174 nan) (replicate 174 0) ≡ Nan 0
unfolding reason_for first_nan is_nan
all-nan = refl
