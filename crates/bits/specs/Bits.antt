-- Numbers as bits, most significant first, each bit 0 or 1.
use Rattle.std.specs.Prelude.{List, [], ◌∷◌, ◌++◌, ℕ, zero, suc, ◌+◌, ◌*◌, ◌/◌, ◌%◌, ◌^◌, take, drop}

-- the k low bits of a number
unfoldable pub bits_of : ℕ → ℕ → List ℕ
bits_of zero n = []
bits_of (suc k) n = n / 2 ^ k % 2 ∷ bits_of k n

-- the bits of bytes, eight a byte
unfoldable pub bits : List ℕ → List ℕ
bits [] = []
bits (b ∷ bs) = bits_of 8 b ++ bits bs

-- the bytes that n bits need
abbrev pub bytes_for : ℕ → ℕ
bytes_for n = (n + 7) / 8

-- the number that bits write, with n written in front of them
unfoldable pub number_after : ℕ → List ℕ → ℕ
number_after n [] = n
number_after n (b ∷ bs) = number_after (n * 2 + b) bs

abbrev pub number : List ℕ → ℕ
number bs = number_after 0 bs

-- n bytes packed of bits, eight a byte
unfoldable pub packed : ℕ → List ℕ → List ℕ
packed zero bs = []
packed (suc n) bs = number (take 8 bs) ∷ packed n (drop 8 bs)
