-- When a frame is clean. (Change request N2: "A frame is clean when its count is 0, none of its values is NaN, and, for code 3, the checksum that
-- `ft8_add_crc` would store for its 77 payload bits equals the one it carries.")
use Rattle.std.specs.Prelude.{Bool, false, not, ◌&&◌, ◌||◌, List, [], ◌∷◌, ◌++◌, ℕ, eqb, Float, take, drop, replicate}
use Rattle.std.specs.Float.Ieee.{is_nan}
use Rattle.bits.specs.Bits.{number, packed}
use Rattle.checksum.specs.Qex.{qex}
use Rattle.tanner.specs.Checks.{low_bits}

unfoldable pub any_nan : List Float → Bool
any_nan [] = false
any_nan (v ∷ vs) = is_nan v || any_nan vs

-- the checksum of a block's 77 payload bits, which is taken over 82 bits, five zeros after them
abbrev pub payload_checksum : List ℕ → ℕ
payload_checksum bits = qex (low_bits (take 77 bits) ++ replicate 5 0)

-- the checksum that the bits carry, at bits 77 to 90
abbrev pub carried_checksum : List ℕ → ℕ
carried_checksum bits = number (low_bits (take 14 (drop 77 bits)))

-- the payload whose 77 bits the frame's are, in the 10 bytes that `ft8_add_crc` takes
abbrev pub payload_of : List ℕ → List ℕ
payload_of bits = packed 10 (low_bits (take 77 bits) ++ replicate 3 0)

unfoldable pub checksum_right : List ℕ → Bool
checksum_right bits = eqb (payload_checksum bits) (carried_checksum bits)

-- a frame of that code with these values, that was decoded to these bits with that count
unfoldable pub frame_clean : ℕ → List Float → ℕ → List ℕ → Bool
frame_clean code values count bits = eqb count 0 && (not (any_nan values) && (not (eqb code 3) || checksum_right bits))
