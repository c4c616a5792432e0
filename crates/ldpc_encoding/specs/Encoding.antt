-- Encoding by the (174,91) code: a word is the message's 91 bits, followed by 83 parity bits.
use Rattle.std.specs.Prelude.{List, [], ◌∷◌, ◌++◌, map, ℕ, zero, suc, ◌+◌, ◌*◌, ◌%◌, take, drop}
use Rattle.bits.specs.Bits.{bits, packed}
use Rattle.ldpc_encoding.specs.Tables.{generator}

-- the parity of a message under a row: whether an odd number of places hold 1 in both
unfoldable pub under : List ℕ → List ℕ → ℕ
under [] m = 0
under (g ∷ gs) [] = 0
under (g ∷ gs) (b ∷ bs) = (g * b + under gs bs) % 2

-- n rows that lie one after another, 12 bytes a row: the 91 bits of each
unfoldable pub rows_of_twelve : ℕ → List ℕ → List (List ℕ)
rows_of_twelve zero g = []
rows_of_twelve (suc n) g = take 91 (bits (take 12 g)) ∷ rows_of_twelve n (drop 12 g)

-- Document 01: "Parity bit i is the parity of the message under row i of `GENERATOR`". The message is 91 bits.
unfoldable pub parity_bits : List ℕ → List ℕ
parity_bits m = map (λ row. under row m) (rows_of_twelve 83 generator)

-- 91 bits to 174
unfoldable pub encode_bits : List ℕ → List ℕ
encode_bits m = m ++ parity_bits m

-- The codeword's 22 bytes: "parity starts at mask 0x10 of byte 11", which is bit 91, and the two bits past 174 are zero.
unfoldable pub codeword_of : List ℕ → List ℕ
codeword_of message = packed 22 (encode_bits (take 91 (bits message)) ++ 0 ∷ 0 ∷ [])
