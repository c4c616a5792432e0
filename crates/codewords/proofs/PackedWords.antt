-- Packed messages and the words of count 0 are one for one: bits packed and unpacked again are the same bits, so a message gives the encoding of its
-- 91 bits, and that gives the message back. By the laws of bits and of lists. Assumes nothing.
use mathlib.Core.Path.{◌≡◌, refl, sym, ap, ◌∙◌}
use mathlib.Core.List.{List, [], ◌∷◌, ◌++◌, map, append-nil}
use Prim.Native.Nat.{ℕ, zero, suc, ◌+◌, ◌*◌, ◌%◌, ◌≤◌}
use native.Mathlib.Nat.{add-zero}
use native.Mathlib.Omega.{arith}
use lib.ListN.{length, get_or, take, drop, replicate, length-append, length-map, length-drop, take-append-drop}
use lib.Seq.{take_at, drop-append-le, length-take-le, take_all}
use Rattle.bits.specs.Bits.{bits, number_after, number, packed}
use Rattle.bits.proofs.Digits.{bits_are, bits-length, number_append, packed-bits}
use Rattle.bits.proofs.AreBits.{AreBits, none, more, are_bits_append, are_bits_take, zeros_are}
use Rattle.bits.proofs.Packed.{unpacked, packed-bytes}
use Rattle.tanner.specs.Checks.{Word}
use Rattle.lists.specs.Below.{Below}
use Rattle.ldpc_encoding.specs.Encoding.{under, rows_of_twelve, parity_bits, encode_bits, codeword_of}
use Rattle.ldpc_encoding.specs.Tables.{generator}
use Rattle.ldpc_encoding.proofs.Codeword.{packed_at, packed-length, message-slack}
use Rattle.codewords.specs.Codewords.{Codeword, Packed, word_of, message_of, Codewords}
use Rattle.ldpc_encoding.proofs.Parity.{under_bit}
use Rattle.codewords.proofs.Span.{Row}
use Rattle.codewords.proofs.Codewords.{zero-count-encoded, encoded-zero-count}

-- ---- words of bits, in both forms

below_are : (w : Word) → Below 2 w → AreBits w
unfolding Below
below_are [] h = none
below_are (b ∷ w) h = more (h 0 (omega arith)) (below_are w (λ k l. h (suc k) (omega arith)))

are_below : {w : Word} → AreBits w → Below 2 w
unfolding Below
are_below none k l = absurd (omega arith)
are_below (more h hs) zero l = h
are_below (more h hs) (suc k) l = are_below hs k (omega arith)

-- ---- the encoding of 91 bits is 174 bits

rows_length : (n : ℕ) (g : List ℕ) → length (rows_of_twelve n g) ≡ n
unfolding rows_of_twelve
rows_length zero g = refl
rows_length (suc n) g = ap suc (rows_length n (drop 12 g))

parities_are : (m : List ℕ) (rs : List Row) → AreBits (map (λ (row : Row). under row m) rs)
parities_are m [] = none
parities_are m (r ∷ rs) = more (under_bit r m) (parities_are m rs)

module _ (front : List ℕ) (size : length front ≡ 91) where
  pub encoding-length : length (encode_bits front) ≡ 174
  unfolding encode_bits parity_bits
  encoding-length =
      let rows = rows_of_twelve 83 generator in
      length-append front (parity_bits front) ∙ omega (arith, length-map rows (λ (row : Row). under row front), rows_length 83 generator)

  pub encoding-front : take 91 (encode_bits front) ≡ front
  unfolding encode_bits
  encoding-front = take_at front (parity_bits front) 91 size

  encoding-are : AreBits front → AreBits (encode_bits front)
  unfolding encode_bits parity_bits
  encoding-are h = are_bits_append h (parities_are front (rows_of_twelve 83 generator))

  -- five zeros behind them fill twelve bytes
  abbrev filled : List ℕ
  filled = front ++ replicate 5 0

  filled-length : length filled ≡ 8 * 12
  filled-length = length-append front (replicate 5 0) ∙ omega arith

  filled-slack : get_or (packed 12 filled) 11 0 % 32 ≡ 0
  unfolding number_after
  filled-slack =
      let n = number (drop 88 front) in
      let last : drop 88 filled ≡ drop 88 front ++ replicate 5 0 = drop-append-le 88 front (replicate 5 0) (omega arith) in
      let eight : length (drop 88 front ++ replicate 5 0) ≤ 8 = simp (length-append, length-drop) (omega arith) in
      let byte : get_or (packed 12 filled) 11 0 ≡ ((((n * 2 + 0) * 2 + 0) * 2 + 0) * 2 + 0) * 2 + 0 =
      packed_at 12 11 filled (omega arith)
      ∙ ap (λ (l : List ℕ). number (take 8 l)) last
      ∙ ap number (take_all 8 (drop 88 front ++ replicate 5 0) eight)
      ∙ number_append 0 (drop 88 front) (replicate 5 0)
      in
      omega (arith, byte)

-- ---- a message's word

module _ (m : List ℕ) (p : Packed m) where
  front-size : length (take 91 (bits m)) ≡ 91
  front-size = length-take-le 91 (bits m) (omega (arith, bits-length m, p.size))

  word-encoding : word_of m ≡ encode_bits (take 91 (bits m))
  unfolding codeword_of
  word-encoding =
      let word = encode_bits (take 91 (bits m)) in
      let long = encoding-length (take 91 (bits m)) front-size in
      let all : AreBits (word ++ 0 ∷ 0 ∷ []) = are_bits_append (encoding-are (take 91 (bits m)) front-size (are_bits_take 91 (bits_are m))) (zeros_are 2) in
      ap (take 174) (unpacked 22 (word ++ 0 ∷ 0 ∷ []) (length-append word (0 ∷ 0 ∷ []) ∙ omega (arith, long)) all)
      ∙ take_at word (0 ∷ 0 ∷ []) 174 long

  word-front : take 91 (word_of m) ≡ take 91 (bits m)
  word-front = ap (take 91) word-encoding ∙ encoding-front (take 91 (bits m)) front-size

  word-given : Codeword (word_of m)
  word-given =
      let long : length (word_of m) ≡ 174 = ap length word-encoding ∙ encoding-length (take 91 (bits m)) front-size in
      let are : AreBits (word_of m) = are_bits_take 174 (bits_are (codeword_of m)) in
      record {
        long = long;
        low = are_below are;
        zero = encoded-zero-count (word_of m) long (word-encoding ∙ ap encode_bits (sym word-front));
      }

  word_back : message_of (word_of m) ≡ m
  unfolding packed
  word_back =
      let whole : take 91 (bits m) ++ replicate 5 0 ≡ bits m =
      ap (λ (l : List ℕ). take 91 (bits m) ++ l) (sym (message-slack m p.size p.bytes p.slack)) ∙ take-append-drop 91 (bits m)
      in
      let again : packed (length m + 0) (bits m ++ []) ≡ m ++ [] = packed-bits m [] 0 p.bytes in
      ap (λ (l : List ℕ). packed 12 (l ++ replicate 5 0)) word-front
      ∙ ap (packed 12) whole
      ∙ rw (add-zero, p.size, append-nil (bits m), append-nil m) at again

-- ---- a word's message

module _ (w : Word) (c : Codeword w) where
  abbrev message : List ℕ
  message = message_of w

  taken : length (take 91 w) ≡ 91
  taken = length-take-le 91 w (omega (arith, c.long))

  filled-are : AreBits (take 91 w ++ replicate 5 0)
  filled-are = are_bits_append (are_bits_take 91 (below_are w c.low)) (zeros_are 5)

  message-packed : Packed message
  message-packed = record {
    size = packed-length 12 (take 91 w ++ replicate 5 0);
    bytes = packed-bytes 12 (take 91 w ++ replicate 5 0) (filled-length (take 91 w) taken) filled-are;
    slack = filled-slack (take 91 w) taken;
  }

  message-front : take 91 (bits message) ≡ take 91 w
  message-front =
      ap (take 91) (unpacked 12 (take 91 w ++ replicate 5 0) (filled-length (take 91 w) taken) filled-are)
      ∙ take_at (take 91 w) (replicate 5 0) 91 taken

  message-word : word_of message ≡ w
  message-word = word-encoding message message-packed ∙ ap encode_bits message-front ∙ sym (zero-count-encoded w c.long c.low c.zero)

pub codewords : Codewords
codewords = record {
  encoding = λ w c. zero-count-encoded w c.long c.low c.zero;
  satisfied = encoded-zero-count;
  given = word-given;
  front = word-encoding;
  back = word_back;
  every = λ w c. (message-packed w c, message-word w c);
}
