-- Encoding byte by byte, as the code computes it; the proofs carry it to the bits of `Encoding.antt`.
use Rattle.std.specs.Prelude.{cond, List, [], ◌∷◌, ℕ, zero, suc, ◌+◌, ◌-◌, ◌*◌, ◌%◌, ◌^◌, eqb, ltb, get_or, take, drop}
use Rattle.std.specs.Int.Bits.{bit_and, bit_or, bit_xor}
use Rattle.bits.specs.Bits.{bits_of}

-- whether an odd number of bits are 1
unfoldable pub odd : List ℕ → ℕ
odd [] = 0
odd (b ∷ bs) = (b + odd bs) % 2

unfoldable pub byte_parity : ℕ → ℕ
byte_parity x = odd (bits_of 8 x)

-- the bytes of a row and of the message, ANDed pair by pair, each XORed onto x
unfoldable pub mixed : ℕ → List ℕ → List ℕ → ℕ
mixed x [] m = x
mixed x (g ∷ gs) [] = x
mixed x (g ∷ gs) (b ∷ bs) = mixed (bit_xor x (bit_and g b)) gs bs

-- parity bit i of a message, by the rows of 12 bytes in g
unfoldable pub parity_at : List ℕ → List ℕ → ℕ → ℕ
parity_at g m i = byte_parity (mixed 0 (take 12 (drop (12 * i) g)) m)

-- k parity bits from bit a on, in the low bits of a byte
unfoldable pub gathered : List ℕ → List ℕ → ℕ → ℕ → ℕ
gathered g m a zero = 0
gathered g m a (suc k) = bit_or (gathered g m a k * 2 ^ 1 % 2 ^ 8) (parity_at g m (a + k))

-- byte j of the codeword
unfoldable pub code_byte : List ℕ → List ℕ → ℕ → ℕ
code_byte g m j =
    cond (ltb j 11) (get_or m j 0)
    (cond (eqb j 11) (bit_or (get_or m 11 0) (gathered g m 0 5))
    (cond (eqb j 21) (gathered g m 77 6 * 2 ^ 2 % 2 ^ 8) (gathered g m (8 * j - 91) 8)))
