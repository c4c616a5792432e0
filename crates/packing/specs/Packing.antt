-- Words of bits, one bit a byte, packed eight a byte, and taken out again: when each call is refused, and what it writes otherwise.
use Rattle.std.specs.Prelude.{◌≡◌, not, List, [], ◌∷◌, map, ℕ, zero, suc, ◌+◌, ◌%◌, ◌≤◌, ◌<◌, eqb, ltb, length, take, get_or}
use Rattle.refusal.specs.Outcome.{Condition, ◌when◌}
use Rattle.text.specs.Text.{byte_at}
use Rattle.bits.specs.Bits.{bits, bytes_for}

-- n bytes of the bits from i on, most significant first; a bit is its byte's low bit, and a zero past the last
unfoldable pub bytes_from : List ℕ → ℕ → ℕ → List ℕ
bytes_from word i zero = []
bytes_from word i (suc n) = byte_at word i ∷ bytes_from word (i + 8) n

-- as many bytes as the bits need
unfoldable pub packed_word : List ℕ → List ℕ
packed_word word = bytes_from word 0 (bytes_for (length word))

-- the first n bits of bytes
abbrev pub unpacked_word : ℕ → List ℕ → List ℕ
unpacked_word n bytes = take n (bits bytes)

-- an output that is not exactly its length
abbrev pub pack_refusals : List ℕ → List ℕ → List Condition
pack_refusals word bytes = (8 when not (eqb (length bytes) (bytes_for (length word)))) ∷ []

-- "fewer bytes than the bits asked for"; what lies past them is not read
abbrev pub unpack_refusals : List ℕ → List ℕ → List Condition
unpack_refusals bytes word = (4 when ltb (length bytes) (bytes_for (length word))) ∷ []

-- packed and taken out again, a word has its bits
abbrev pub Undone : List ℕ → Type 0
Undone word = unpacked_word (length word) (packed_word word) ≡ map (λ b. b % 2) word

-- taken out and packed again, the bytes of n bits are what they were, where each is a byte and all bits past the n are zeros
abbrev pub Repacked : List ℕ → ℕ → Type 0
Repacked bytes n =
    length bytes ≡ bytes_for n → ((k : ℕ) → get_or bytes k 0 < 256) → ((i : ℕ) → n ≤ i → get_or (bits bytes) i 0 ≡ 0)
    → packed_word (unpacked_word n bytes) ≡ bytes
