-- The codeword byte by byte and bit by bit are the same: eleven bytes of the message, one shared, nine of eight parity bits, and the last six.
-- By the laws of bits and of lists. Assumes nothing.
use mathlib.Core.Path.{◌≡◌, refl, sym, ap, ap₂, ◌∙◌}
use mathlib.Core.List.{List, [], ◌∷◌, ◌++◌, append_assoc}
use Prim.Native.Nat.{ℕ, zero, suc, ◌+◌, ◌-◌, ◌*◌, ◌/◌, ◌%◌, ◌^◌, ◌<◌, ◌≤◌}
use native.Mathlib.Nat.{zero-add}
use native.Mathlib.Decide.{dec_lt, ℕ_discrete}
use native.Mathlib.Omega.{arith}
use borrow.Author.Tests.{lt-ltb, le-ltb, eq-eqb, ne_eqb}
use lib.Bits.{bit_or, or_shifted}
use lib.ListN.{length, get_or, take, drop, replicate, length-append, get_or-append, take-append-drop, drop_of_length-le}
use lib.Seq.{take_at, drop_at, drop-append-add, get_or-take, drop-cons, length-take-le, drop-drop, take_all}
use Rattle.bits.specs.Bits.{bits_of, bits, number_after, number, packed}
use Rattle.bits.proofs.Digits.{Bytes, bytes_take, bits-length, bits_append, bits_of-split, number-bits, number_append, packed-bits}
use Rattle.ldpc_encoding.specs.Bytes.{parity_at, gathered, code_byte}
use Rattle.ldpc_encoding.specs.Encoding.{parity_bits, encode_bits, codeword_of}
use Rattle.ldpc_encoding.specs.Tables.{generator}
use Rattle.ldpc_encoding.proofs.Gather.{run, run_length, run_split, number_lt, parity_bit, gathered-number, rows-parities}

-- byte j of packed bits
pub packed_at : (n j : ℕ) (bs : List ℕ) → j < n → get_or (packed n bs) j 0 ≡ number (take 8 (drop (8 * j) bs))
unfolding packed
packed_at zero j bs h = absurd (omega arith)
packed_at (suc n) zero bs h = refl
packed_at (suc n) (suc j) bs h =
    let next : 8 + 8 * j ≡ 8 * suc j = omega arith in
    packed_at n j (drop 8 bs) (omega arith) ∙ ap (λ (l : List ℕ). number (take 8 l)) (drop-drop (8 * j) 8 bs ∙ ap (λ (k : ℕ). drop k bs) next)

pub packed-length : (n : ℕ) (bs : List ℕ) → length (packed n bs) ≡ n
unfolding packed
packed-length zero bs = refl
packed-length (suc n) bs = ap suc (packed-length n (drop 8 bs))

-- the low five bits of a byte whose low five bits are zero
five_zeros : (x : ℕ) → x % 32 ≡ 0 → bits_of 5 x ≡ replicate 5 0
unfolding bits_of
five_zeros x h =
    let a : x / 2 ^ 4 % 2 ≡ 0 = omega arith in
    let b : x / 2 ^ 3 % 2 ≡ 0 = omega arith in
    let c : x / 2 ^ 2 % 2 ≡ 0 = omega arith in
    let d : x / 2 ^ 1 % 2 ≡ 0 = omega arith in
    let e : x / 2 ^ 0 % 2 ≡ 0 = omega arith in
    rw (a, b, c, d, e) refl

-- five bits behind a number, and two zeros behind it
behind_five : (f : ℕ → ℕ) (n : ℕ) → number_after n (run f 0 5) ≡ n * 32 + number (run f 0 5)
unfolding number_after run
behind_five f n = omega arith

one_byte : (x : ℕ) → bits (x ∷ []) ≡ bits_of 8 x
unfolding bits bits_of
one_byte x = refl

three_bits : (x : ℕ) → length (bits_of 3 x) ≡ 3
unfolding bits_of
three_bits x = refl

regroup : (a b c d : List ℕ) → ((a ++ b) ++ c) ++ d ≡ a ++ (b ++ (c ++ d))
regroup a b c d = simp append_assoc

pair-up : (a b c d : List ℕ) → a ++ ((b ++ c) ++ d) ≡ (a ++ b) ++ (c ++ d)
pair-up a b c d = simp append_assoc

generator-size : length generator ≡ 996
unfolding generator
generator-size = refl

-- a message of twelve bytes whose last five bits are zero
module _ (m : List ℕ) (size : length m ≡ 12) (bytes : Bytes m) (slack : get_or m 11 0 % 32 ≡ 0) where
  abbrev front : List ℕ
  front = take 11 m

  abbrev last : ℕ
  last = get_or m 11 0

  -- its last three bits
  abbrev three : List ℕ
  three = bits_of 3 (last / 2 ^ 5)

  abbrev f : ℕ → ℕ
  f = parity_at generator m

  front-size : length front ≡ 11
  front-size = length-take-le 11 m (omega arith)

  eighty-eight : length (bits front) ≡ 88
  eighty-eight = bits-length front ∙ ap (λ (n : ℕ). 8 * n) front-size

  ninety-one : length (bits front ++ three) ≡ 91
  ninety-one = simp length-append (omega (arith, eighty-eight, three_bits (last / 2 ^ 5)))

  whole : m ≡ front ++ last ∷ []
  whole =
      sym (take-append-drop 11 m)
      ∙ ap (λ (l : List ℕ). front ++ l) (drop-cons m 11 0 (omega arith) ∙ ap (λ (l : List ℕ). last ∷ l) (drop_of_length-le m {i = 12} (omega arith)))

  message-bits : bits m ≡ (bits front ++ three) ++ replicate 5 0
  message-bits =
      ap bits whole
      ∙ bits_append front (last ∷ [])
      ∙ ap (λ (l : List ℕ). bits front ++ l) (one_byte last ∙ bits_of-split 3 5 last ∙ ap (λ (l : List ℕ). three ++ l) (five_zeros last slack))
      ∙ sym (append_assoc (bits front) three (replicate 5 0))

  message-front : take 91 (bits m) ≡ bits front ++ three
  message-front = ap (take 91) message-bits ∙ take_at (bits front ++ three) (replicate 5 0) 91 ninety-one

  pub message-slack : drop 91 (bits m) ≡ replicate 5 0
  message-slack = ap (drop 91) message-bits ∙ drop_at (bits front ++ three) (replicate 5 0) 91 ninety-one

  -- the bits that are packed, from the definition
  abbrev word : List ℕ
  word = encode_bits (take 91 (bits m)) ++ 0 ∷ 0 ∷ []

  word_bits : word ≡ bits front ++ (three ++ (run f 0 83 ++ 0 ∷ 0 ∷ []))
  unfolding encode_bits parity_bits
  word_bits =
      let parities = rows-parities generator m size message-slack 0 83 (omega (arith, generator-size)) in
      ap₂ (λ (a b : List ℕ). (a ++ b) ++ 0 ∷ 0 ∷ []) message-front parities ∙ regroup (bits front) three (run f 0 83) (0 ∷ 0 ∷ [])

  at_front : (j : ℕ) → j < 11 → get_or (packed 22 word) j 0 ≡ get_or m j 0
  at_front j h =
      let rest = three ++ (run f 0 83 ++ 0 ∷ 0 ∷ []) in
      ap (λ (bs : List ℕ). get_or (packed 22 bs) j 0) word_bits
      ∙ ap (λ (l : List ℕ). get_or l j 0) (rw front-size at (packed-bits front rest 11 (bytes_take 11 m bytes)))
      ∙ get_or-append front (packed 11 rest) 0 j (rw front-size h)
      ∙ get_or-take 11 m j 0 h

  at-eleven : get_or (packed 22 word) 11 0 ≡ bit_or last (gathered generator m 0 5)
  at-eleven =
      let n = number (run f 0 5) in
      let low : n < 2 ^ 5 = number_lt f (parity_bit generator m) 0 5 in
      let byte : last < 256 = bytes 11 in
      let sums : (0 * 2 ^ 3 + last / 2 ^ 5 % 2 ^ 3) * 32 + n ≡ last / 32 * 2 ^ 5 + n = omega arith in
      let same : last / 32 * 2 ^ 5 ≡ last = omega arith in
      let eight : length (three ++ run f 0 5) ≡ 8 = simp length-append (omega (arith, three_bits (last / 2 ^ 5), run_length f 0 5)) in
      packed_at 22 11 word (omega arith)
      ∙ ap (λ (l : List ℕ). number (take 8 (drop 88 l))) word_bits
      ∙ ap (λ (l : List ℕ). number (take 8 l)) (drop_at (bits front) (three ++ (run f 0 83 ++ 0 ∷ 0 ∷ [])) 88 eighty-eight)
      ∙ ap (λ (l : List ℕ). number (take 8 (three ++ (l ++ 0 ∷ 0 ∷ [])))) (run_split f 0 5 78)
      ∙ ap (λ (l : List ℕ). number (take 8 l)) (pair-up three (run f 0 5) (run f 5 78) (0 ∷ 0 ∷ []))
      ∙ ap number (take_at (three ++ run f 0 5) (run f 5 78 ++ 0 ∷ 0 ∷ []) 8 eight)
      ∙ number_append 0 three (run f 0 5)
      ∙ behind_five f (number three)
      ∙ ap (λ (x : ℕ). x * 32 + n) (number-bits 3 0 (last / 2 ^ 5))
      ∙ sums
      ∙ sym (or_shifted (last / 32) 5 n low)
      ∙ ap₂ bit_or same (sym (gathered-number generator m 0 5 (omega arith)))

  -- the word from parity bit d on
  from-parity : (d k : ℕ) → d + k ≡ 83 → drop (91 + d) word ≡ run f d k ++ 0 ∷ 0 ∷ []
  from-parity d k e =
      let z : List ℕ = 0 ∷ 0 ∷ [] in
      let runs = ap (λ (n : ℕ). run f 0 n) (sym e) ∙ run_split f 0 d k ∙ ap (λ (a : ℕ). run f 0 d ++ run f a k) (zero-add d) in
      ap (drop (91 + d)) (word_bits ∙ sym (append_assoc (bits front) three (run f 0 83 ++ z)))
      ∙ rw ninety-one at (drop-append-add (bits front ++ three) (run f 0 83 ++ z) d)
      ∙ ap (λ (l : List ℕ). drop d (l ++ z)) runs
      ∙ ap (drop d) (append_assoc (run f 0 d) (run f d k) z)
      ∙ drop_at (run f 0 d) (run f d k ++ z) d (run_length f 0 d)

  at-parity : (j d k : ℕ) → j < 22 → 8 * j ≡ 91 + d → d + (8 + k) ≡ 83 → get_or (packed 22 word) j 0 ≡ gathered generator m d 8
  at-parity j d k h e t =
      let z : List ℕ = 0 ∷ 0 ∷ [] in
      packed_at 22 j word h
      ∙ ap (λ (n : ℕ). number (take 8 (drop n word))) e
      ∙ ap (λ (l : List ℕ). number (take 8 l)) (from-parity d (8 + k) t ∙ ap (λ (l : List ℕ). l ++ z) (run_split f d 8 k)
      ∙ append_assoc (run f d 8) (run f (d + 8) k) z)
      ∙ ap number (take_at (run f d 8) (run f (d + 8) k ++ z) 8 (run_length f d 8))
      ∙ sym (gathered-number generator m d 8 (omega arith))

  at_last : get_or (packed 22 word) 21 0 ≡ gathered generator m 77 6 * 2 ^ 2 % 2 ^ 8
  unfolding number_after
  at_last =
      let n = number (run f 77 6) in
      let small : n < 2 ^ 6 = number_lt f (parity_bit generator m) 77 6 in
      let eight : length (run f 77 6 ++ 0 ∷ 0 ∷ []) ≤ 8 = simp length-append (omega (arith, run_length f 77 6)) in
      let four : (n * 2 + 0) * 2 + 0 ≡ n * 2 ^ 2 % 2 ^ 8 = omega arith in
      packed_at 22 21 word (omega arith)
      ∙ ap (λ (l : List ℕ). number (take 8 l)) (from-parity 77 6 refl)
      ∙ ap number (take_all 8 (run f 77 6 ++ 0 ∷ 0 ∷ []) eight)
      ∙ number_append 0 (run f 77 6) (0 ∷ 0 ∷ [])
      ∙ four
      ∙ ap (λ (x : ℕ). x * 2 ^ 2 % 2 ^ 8) (sym (gathered-number generator m 77 6 (omega arith)))

  pub codeword-at : (j : ℕ) → j < 22 → get_or (codeword_of m) j 0 ≡ code_byte generator m j
  unfolding codeword_of code_byte
  codeword-at j h = by (dec_lt j 11) (ℕ_discrete j 11) (ℕ_discrete j 21)
    where
      by : Dec (j < 11) → Dec (j ≡ 11) → Dec (j ≡ 21) → get_or (packed 22 word) j 0 ≡ code_byte generator m j
      by (yes l) s t = rw (lt-ltb j 11 l) (at_front j l)
      by (no l) (yes s) t = rw (le-ltb j 11 (omega arith), eq-eqb j 11 s) (ap (λ (i : ℕ). get_or (packed 22 word) i 0) s ∙ at-eleven)
      by (no l) (no s) (yes t) = rw (le-ltb j 11 (omega arith), ne_eqb j 11 s, eq-eqb j 21 t) (ap (λ (i : ℕ). get_or (packed 22 word) i 0) t ∙ at_last)
      by (no l) (no s) (no t) =
          rw (le-ltb j 11 (omega arith), ne_eqb j 11 s, ne_eqb j 21 t) (at-parity j (8 * j - 91) (83 - (8 * j - 91) - 8) h (omega arith) (omega arith))

pub codeword_length : (m : List ℕ) → length (codeword_of m) ≡ 22
unfolding codeword_of
codeword_length m = packed-length 22 (encode_bits (take 91 (bits m)) ++ 0 ∷ 0 ∷ [])
