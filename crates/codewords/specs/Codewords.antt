-- Which words satisfy every check of the (174,91) code: the encodings, one for each packed message.
use Rattle.std.specs.Prelude.{◌≡◌, List, ◌++◌, ℕ, ◌%◌, ◌<◌, length, get_or, take, replicate}
use Rattle.bits.specs.Bits.{bits, packed}
use Rattle.tanner.specs.Checks.{Word, count}
use Rattle.lists.specs.Below.{Below}
use Rattle.code174.specs.Code174.{checks}
use Rattle.ldpc_encoding.specs.Encoding.{encode_bits, codeword_of}

-- a word of 174 bits that has count 0
pub record Codeword (w : Word) : Type 0 where
  pub long : length w ≡ 174
  pub low : Below 2 w
  pub zero : count checks w ≡ 0

-- a packed message: 12 bytes, the low five bits of the last being zero
pub record Packed (m : List ℕ) : Type 0 where
  pub size : length m ≡ 12
  pub bytes : (i : ℕ) → get_or m i 0 < 256
  pub slack : get_or m 11 0 % 32 ≡ 0

-- the word in the 22 bytes of a message's codeword; the message packed of a word's first 91 bits
abbrev pub word_of : List ℕ → Word
word_of m = take 174 (bits (codeword_of m))

abbrev pub message_of : Word → List ℕ
message_of w = packed 12 (take 91 w ++ replicate 5 0)

pub record Codewords : Type 0 where
  -- "a word of 174 bits has count 0 exactly when it is the encoding of its first 91 bits"
  pub encoding : (w : Word) → Codeword w → w ≡ encode_bits (take 91 w)
  pub satisfied : (w : Word) → length w ≡ 174 → w ≡ encode_bits (take 91 w) → count checks w ≡ 0
  -- "each packed message with zero low bits giving one such word": its word is one, no other message gives it, and no such word is left out
  pub given : (m : List ℕ) → Packed m → Codeword (word_of m)
  pub front : (m : List ℕ) → Packed m → word_of m ≡ encode_bits (take 91 (bits m))
  pub back : (m : List ℕ) → Packed m → message_of (word_of m) ≡ m
  pub every : (w : Word) → Codeword w → Packed (message_of w) × (word_of (message_of w) ≡ w)
