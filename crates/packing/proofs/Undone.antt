-- Packed and taken out again, a word has its bits, and bytes taken out are packed to what they were: place by place, eight places to a byte.
-- Assumes nothing.
use mathlib.Core.Path.{◌≡◌, refl, sym, ap, ap₂, ◌∙◌}
use mathlib.Core.List.{List, [], ◌∷◌, map}
use Prim.Native.Nat.{ℕ, zero, suc, ◌+◌, ◌-◌, ◌*◌, ◌/◌, ◌%◌, ◌^◌, ◌≤◌, ◌<◌}
use native.Mathlib.Omega.{arith}
use native.Mathlib.Nat.{zero-add}
use native.Mathlib.Decide.{dec_lt}
use lib.ListN.{length, take, get_or, length-map, get_or-map, get_or-eq_default}
use lib.Seq.{length-take-le, get_or-take, ext_get_or}
use Rattle.bits.specs.Bits.{bits, bits_of, bytes_for, number, number_after}
use Rattle.bits.proofs.Digits.{bits-length, bits_at, number-bits}
use Rattle.text.specs.Text.{bit_at, byte_at}
use Rattle.packing.specs.Packing.{bytes_from, packed_word, unpacked_word, Undone, Repacked}

-- bit 7 - j of the byte of eight bits is bit j of these
bit_of_byte : (word : List ℕ) (i j : ℕ) → j < 8 → byte_at word i / 2 ^ (7 - j) % 2 ≡ bit_at word (i + j)
unfolding byte_at
bit_of_byte word i zero h = let same : i + 0 ≡ i = omega arith in rw same (omega arith)
bit_of_byte word i (suc zero) h = omega arith
bit_of_byte word i (suc (suc zero)) h = omega arith
bit_of_byte word i (suc (suc (suc zero))) h = omega arith
bit_of_byte word i (suc (suc (suc (suc zero)))) h = omega arith
bit_of_byte word i (suc (suc (suc (suc (suc zero))))) h = omega arith
bit_of_byte word i (suc (suc (suc (suc (suc (suc zero)))))) h = omega arith
bit_of_byte word i (suc (suc (suc (suc (suc (suc (suc zero))))))) h = omega arith
bit_of_byte word i (suc (suc (suc (suc (suc (suc (suc (suc j)))))))) h = absurd (omega arith)

from-length : (word : List ℕ) (i n : ℕ) → length (bytes_from word i n) ≡ n
unfolding bytes_from
from-length word i zero = refl
from-length word i (suc n) = ap suc (from-length word (i + 8) n)

-- byte k from i on
from_at : (word : List ℕ) (i n k : ℕ) → k < n → get_or (bytes_from word i n) k 0 ≡ byte_at word (i + k * 8)
unfolding bytes_from
from_at word i zero k h = absurd (omega arith)
from_at word i (suc n) zero h = ap (byte_at word) (omega arith)
from_at word i (suc n) (suc k) h = from_at word (i + 8) n k (omega arith) ∙ ap (byte_at word) (omega arith)

bit_back : (word : List ℕ) (i : ℕ) → i < length word → get_or (bits (packed_word word)) i 0 ≡ bit_at word i
unfolding packed_word
bit_back word i h =
    let n = bytes_for (length word) in
    let bytes = bytes_from word 0 n in
    let long = from-length word 0 n in
    let byte = from_at word 0 n (i / 8) (omega arith) in
    let place : 0 + i / 8 * 8 + i % 8 ≡ i = omega arith in
    bits_at bytes i (omega arith)
    ∙ ap (λ (b : ℕ). b / 2 ^ (7 - i % 8) % 2) byte
    ∙ bit_of_byte word (0 + i / 8 * 8) (i % 8) (omega arith)
    ∙ ap (bit_at word) place

pub undone : (word : List ℕ) → Undone word
unfolding packed_word
undone word =
    let n = length word in
    let long : n ≤ length (bits (packed_word word)) = rw (bits-length (packed_word word), from-length word 0 (bytes_for n)) (omega arith) in
    let sized = length-take-le n (bits (packed_word word)) long in
    ext_get_or 0 (take n (bits (packed_word word))) (map (λ b. b % 2) word) (sized ∙ sym (length-map word (λ b. b % 2)))
    (λ i h. get_or-take n (bits (packed_word word)) i 0 (omega arith) ∙ bit_back word i (omega arith) ∙ sym (get_or-map (λ b. b % 2) word i 0))

-- ---- the other way round

twice : (x : ℕ) → x % 2 % 2 ≡ x % 2
twice x = omega arith

weighed : (a b c d e f g h : ℕ) → 128 * a + 64 * b + 32 * c + 16 * d + 8 * e + 4 * f + 2 * g + h ≡ number (a ∷ b ∷ c ∷ d ∷ e ∷ f ∷ g ∷ h ∷ [])
unfolding number_after
weighed a b c d e f g h = omega arith

-- a byte is what its eight bits weigh
eight : (b : ℕ) → b < 256
    → 128 * (b / 2 ^ 7 % 2) + 64 * (b / 2 ^ 6 % 2) + 32 * (b / 2 ^ 5 % 2) + 16 * (b / 2 ^ 4 % 2)
    + 8 * (b / 2 ^ 3 % 2) + 4 * (b / 2 ^ 2 % 2) + 2 * (b / 2 ^ 1 % 2) + b / 2 ^ 0 % 2 ≡ b
unfolding bits_of
eight b small = weighed _ _ _ _ _ _ _ _ ∙ number-bits 8 0 b ∙ low
  where
    low : 0 * 2 ^ 8 + b % 2 ^ 8 ≡ b
    low = omega arith

module _ (bytes : List ℕ) (n : ℕ) (sized : length bytes ≡ bytes_for n) (slack : (i : ℕ) → n ≤ i → get_or (bits bytes) i 0 ≡ 0) where
  long : n ≤ length (bits bytes)
  long = rw (bits-length bytes) (omega arith)

  -- a bit of the word is that bit of the bytes, also past the word's end
  word_at : (i : ℕ) → get_or (unpacked_word n bytes) i 0 ≡ get_or (bits bytes) i 0
  word_at i = by (dec_lt i n)
    where
      by : Dec (i < n) → get_or (unpacked_word n bytes) i 0 ≡ get_or (bits bytes) i 0
      by (yes h) = get_or-take n (bits bytes) i 0 h
      by (no h) =
          let past : length (unpacked_word n bytes) ≤ i = rw (length-take-le n (bits bytes) long) (omega arith) in
          get_or-eq_default (unpacked_word n bytes) 0 past ∙ sym (slack i (omega arith))

  byte-back : (k : ℕ) → k < length bytes → get_or bytes k 0 < 256 → byte_at (unpacked_word n bytes) (k * 8) ≡ get_or bytes k 0
  unfolding byte_at
  byte-back k h small =
      let at : (j : ℕ) → j < 8 → get_or (unpacked_word n bytes) (k * 8 + j) 0 ≡ get_or bytes k 0 / 2 ^ (7 - j) % 2 = λ j low. bit_in k j h low in
      let start : k * 8 + 0 ≡ k * 8 = omega arith in
      let first = rw start at (at 0 (omega arith)) in
      simp (
        first,
        at 1 (omega arith),
        at 2 (omega arith),
        at 3 (omega arith),
        at 4 (omega arith),
        at 5 (omega arith),
        at 6 (omega arith),
        at 7 (omega arith),
        twice,
      )
      (eight (get_or bytes k 0) small)
    where
      bit_in : (k j : ℕ) → k < length bytes → j < 8 → get_or (unpacked_word n bytes) (k * 8 + j) 0 ≡ get_or bytes k 0 / 2 ^ (7 - j) % 2
      bit_in k j h low =
          let byte : (k * 8 + j) / 8 ≡ k = omega arith in
          let place : (k * 8 + j) % 8 ≡ j = omega arith in
          word_at (k * 8 + j) ∙ bits_at bytes (k * 8 + j) (omega arith) ∙ ap₂ (λ (x y : ℕ). get_or bytes x 0 / 2 ^ (7 - y) % 2) byte place

pub repacked : (bytes : List ℕ) (n : ℕ) → Repacked bytes n
unfolding packed_word
repacked bytes n sized small slack =
    let word = unpacked_word n bytes in
    let wide : length word ≡ n = length-take-le n (bits bytes) (long bytes n sized slack) in
    let size = from-length word 0 (bytes_for (length word)) in
    ext_get_or 0 (packed_word word) bytes (size ∙ ap bytes_for wide ∙ sym sized)
    (λ k h.
    from_at word 0 (bytes_for (length word)) k (omega arith)
    ∙ ap (byte_at word) (zero-add (k * 8))
    ∙ byte-back bytes n sized slack k (omega arith) (small k))
