-- Document 01's sample cases that are marked (P), in one table: what the definitions give, and what the document says.
use Rattle.std.specs.Prelude.{◌≡◌, List, [], ◌∷◌, ◌++◌, ℕ, ◌+◌, ◌-◌, Float, get_or, replicate}
use Rattle.std.specs.Float.{nan, binary32}
use Rattle.std.specs.Float.Ieee.{neg, of_bits}
use Rattle.checksum.specs.Register.{crc14}
use Rattle.crc.specs.Block.{carried}
use Rattle.tanner.specs.Checks.{count_bytes}
use Rattle.softmath.specs.Single.{zero32, two32}
use Rattle.softmath.specs.CheckNode.{check_step}
use Rattle.softmath.specs.declared.DecodeRule.TheVariants.{MinSum, Ft8}
use Rattle.code174.specs.Code174.{checks}
use Rattle.ldpc_encoding.specs.Encoding.{codeword_of}
use Rattle.ldpc_codes.specs.Calls.{syndrome_by}
use Rattle.rounds.specs.Rounds.{chosen_count, chosen_bits}
use Rattle.decoders.specs.Decodes.{ft8_decode}

pub record Entry : Type 1 where
  pub Kind : Type 0
  pub gives : Kind
  pub says : Kind

abbrev number : ℕ → ℕ → Entry
number g s = record { Kind = ℕ; gives = g; says = s }

abbrev bits_are : List ℕ → List ℕ → Entry
bits_are g s = record { Kind = List ℕ; gives = g; says = s }

abbrev floats : List Float → List Float → Entry
floats g s = record { Kind = List Float; gives = g; says = s }

-- a block whose bytes 9 to 11 are given, the bytes before them zero
abbrev pub ending : List ℕ → List ℕ
ending bs = replicate 9 0 ++ bs

-- x at position p, zeros before it and n zeros after it
abbrev pub alone : ℕ → ℕ → ℕ → List ℕ
alone p x n = replicate p 0 ++ (x ∷ replicate n 0)

abbrev pub minus_zeros : List Float
minus_zeros = replicate 174 (neg zero32)

abbrev pub nans : List Float
nans = replicate 174 nan

-- ---- the document's cases, line by line

-- "Checksum of zero bits: 0. Byte 0x80, 1 bit: 0x2757. Byte 0x01, 1 bit: 0x0080."
abbrev pub checksums : List Entry
checksums = number (crc14 [] 0) 0 ∷ number (crc14 (0x80 ∷ []) 1) 0x2757 ∷ number (crc14 (0x01 ∷ []) 1) 0x0080 ∷ []

-- "Extract with bytes 9 to 11 = 07 FF E0: 0x3FFF; 00 00 1F gives 0."
abbrev pub extracts : List Entry
extracts = number (carried (ending (0x07 ∷ 0xFF ∷ 0xE0 ∷ []))) 0x3FFF ∷ number (carried (ending (0x00 ∷ 0x00 ∷ 0x1F ∷ []))) 0 ∷ []

-- "(174,91), byte 0 = 0x80, rest zero: bytes 11 and 12 are both 0x14."
abbrev pub encodings : List Entry
encodings = number (get_or (codeword_of (alone 0 0x80 11)) 11 0) 0x14 ∷ number (get_or (codeword_of (alone 0 0x80 11)) 12 0) 0x14 ∷ []

-- "Code 3 count, bit 0 alone: 3, whether the byte is 1 or 2. All ones: 24."
abbrev pub counts : List Entry
counts =
    number (count_bytes checks (alone 0 1 173)) 3
    ∷ number (count_bytes checks (alone 0 2 173)) 3
    ∷ number (count_bytes checks (replicate 174 1)) 24
    ∷ []

-- "Code 3, all values -0.0, limit 0: all ones, 24. All NaN: zeros, 0."
abbrev pub decodes : List Entry
decodes =
    bits_are (chosen_bits (ft8_decode Ft8 minus_zeros) 0 174) (replicate 174 1)
    ∷ number (chosen_count (ft8_decode Ft8 minus_zeros) 0) 24
    ∷ bits_are (chosen_bits (ft8_decode Ft8 nans) 0 174) (replicate 174 0)
    ∷ number (chosen_count (ft8_decode Ft8 nans) 0) 0
    ∷ []

-- "Staircase count, last bit alone: 1. Bit K alone: 2. Message bit 0 alone: 3, but 0 if its byte is 2."
abbrev pub staircase : ℕ → ℕ → ℕ → List Entry
staircase code k m =
    number (syndrome_by code (alone (k + m - 1) 1 0)).count 1
    ∷ number (syndrome_by code (alone k 1 (m - 1))).count 2
    ∷ number (syndrome_by code (alone 0 1 (k + m - 1))).count 3
    ∷ number (syndrome_by code (alone 0 2 (k + m - 1))).count 0
    ∷ []

-- "Min-sum on 2.0, -3.0, 2.0, NaN gives -2.0, 2.0, -2.0, -2.0."
abbrev pub min_sums : List Entry
min_sums =
    floats (check_step MinSum (two32 ∷ neg (of_bits binary32 0x40400000) ∷ two32 ∷ nan ∷ [])) (neg two32 ∷ two32 ∷ neg two32 ∷ neg two32 ∷ [])
    ∷ []

-- ---- the table

abbrev pub table : List Entry
table =
    checksums ++ extracts ++ encodings ++ counts ++ decodes
    ++ staircase 0 256 256 ++ staircase 1 384 192 ++ staircase 2 384 128
    ++ min_sums

-- the definitions yield each entry
pub data Yields : List Entry → Type 1 where
  none : Yields []
  more : {e : Entry} {es : List Entry} → e.gives ≡ e.says → Yields es → Yields (e ∷ es)
