-- The definitions yield each (P) case of document 01: by computation, and those of the staircase count by `Staircase.antt`. Assumes nothing.
use mathlib.Core.Path.{refl}
use mathlib.Core.List.{List, ◌++◌}
use Prim.Native.Nat.{ℕ}
use lib.Ieee.{mul, neg, lt, le, of_bits}
use Rattle.bits.specs.Bits.{bits_of, bits, number_after, packed}
use Rattle.checksum.specs.Register.{turn, fed, register, crc14}
use Rattle.crc.specs.Block.{carried}
use Rattle.tanner.specs.Checks.{parity, count, xor_from, count_bytes}
use Rattle.softmath.specs.Functions.{magnitude_of, decide}
use Rattle.softmath.specs.CheckNode.{seen, minima_from, minima_of, min_answer, min_answers, min_sum, check_step}
use Rattle.code174.specs.Tables.{nm, num_rows}
use Rattle.code174.specs.Code174.{checks, rows_of_seven}
use Rattle.ldpc_encoding.specs.Tables.{generator}
use Rattle.ldpc_encoding.specs.Encoding.{under, rows_of_twelve, parity_bits, encode_bits, codeword_of}
use Rattle.one_round.specs.Round.{initial_word}
use Rattle.rounds.specs.Rounds.{words_from, round_words, chosen_from, chosen, chosen_count, chosen_bits}
use Rattle.known_cases.specs.Cases.{Entry, checksums, extracts, encodings, counts, decodes, staircase, min_sums, table, Yields, none, more}
use Rattle.known_cases.proofs.Staircase.{Cases, cases0, cases1, cases2}

checksums_yield : Yields checksums
unfolding turn fed register crc14
checksums_yield = more refl (more refl (more refl none))

extracts_yield : Yields extracts
unfolding bits_of bits number_after carried
extracts_yield = more refl (more refl none)

encodings_yield : Yields encodings
unfolding bits_of bits number_after packed under rows_of_twelve parity_bits encode_bits codeword_of generator
encodings_yield = more refl (more refl none)

counts_yield : Yields counts
unfolding xor_from count_bytes rows_of_seven checks nm num_rows
counts_yield = more refl (more refl (more refl none))

-- at limit 0 the initial word is chosen
decodes_yield : Yields decodes
unfolding chosen_bits chosen_count chosen round_words words_from chosen_from initial_word decide neg le of_bits count parity checks rows_of_seven nm num_rows
decodes_yield = more refl (more refl (more refl (more refl none)))

min-sums_yield : Yields min_sums
unfolding check_step min_sum minima_of minima_from seen min_answer min_answers magnitude_of of_bits neg lt mul
min-sums_yield = more refl none

staircase_yields : {code k m : ℕ} → Cases code k m → Yields (staircase code k m)
staircase_yields c = more c.last_bit (more c.bit_k (more c.message_bit (more c.byte_two none)))

-- ---- the table

infixl 10 ◌and◌
◌and◌ : {es fs : List Entry} → Yields es → Yields fs → Yields (es ++ fs)
none and q = q
more e p and q = more e (p and q)

pub p_cases : Yields table
p_cases =
    checksums_yield and extracts_yield and encodings_yield and counts_yield and decodes_yield
    and staircase_yields cases0 and staircase_yields cases1 and staircase_yields cases2
    and min-sums_yield
