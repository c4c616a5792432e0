-- The block byte by byte, as the code writes it; the proofs carry it to the bits of `Block.antt`.
use Rattle.std.specs.Prelude.{List, [], ◌∷◌, ◌++◌, ℕ, ◌*◌, ◌/◌, ◌%◌, ◌^◌, get_or, set, take}
use Rattle.std.specs.Int.Bits.{bit_and, bit_or}

-- the payload, the low three bits of byte 9 cleared, and two zero bytes
unfoldable pub laid : List ℕ → List ℕ
laid p = take 9 p ++ (bit_and (get_or p 9 0) 0xF8 ∷ 0 ∷ 0 ∷ [])

-- a block with the 14 bits of c after its 77
abbrev pub stored : List ℕ → ℕ → List ℕ
stored a c = set (set (set a 9 (bit_or (get_or a 9 0) (c / 2 ^ 11))) 10 (c / 2 ^ 3 % 256)) 11 (c * 2 ^ 5 % 2 ^ 16 % 256)
