-- The 91-bit block of FT8 in its 12 bytes: what is written for a payload, and where the checksum lies.
use Rattle.std.specs.Prelude.{List, ◌++◌, ℕ, take, drop, replicate}
use Rattle.bits.specs.Bits.{bits, bits_of, number, packed}
use Rattle.checksum.specs.Qex.{qex}

-- the payload's 77 bits; the low three bits of byte 9 are no part of it
abbrev pub payload_bits : List ℕ → List ℕ
payload_bits p = take 77 (bits p)

-- the checksum of 82 bits: the payload's, followed by 5 zeros
abbrev pub block_checksum : List ℕ → ℕ
block_checksum p = qex (payload_bits p ++ replicate 5 0)

-- Document 01: "`ft8_add_crc` clears the low three bits of byte 9, takes 82 bits, and stores the checksum at bits 77 to 90,
-- bits 91 to 95 zero."
abbrev pub block_bits : List ℕ → List ℕ
block_bits p = payload_bits p ++ (bits_of 14 (block_checksum p) ++ replicate 5 0)

unfoldable pub block : List ℕ → List ℕ
block p = packed 12 (block_bits p)

-- the checksum that a block carries, at its bits 77 to 90
unfoldable pub carried : List ℕ → ℕ
carried a = number (take 14 (drop 77 (bits a)))
