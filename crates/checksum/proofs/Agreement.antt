-- The register's checksum is QEX's with the unused bits of the last byte XORed in, by induction on the bits.
use mathlib.Core.Path.{◌≡◌, refl, sym, ap, ap₂, ◌∙◌}
use mathlib.Core.List.{List, [], ◌∷◌, ◌++◌}
use Prim.Native.Nat.{ℕ, zero, suc, ◌+◌, ◌-◌, ◌*◌, ◌/◌, ◌%◌, ◌^◌, ◌<◌, ◌≤◌}
use native.Mathlib.Decide.{dec_lt}
use native.Mathlib.Nat.{mod-lt, mul_assoc, add-mul, mod-eq_of_lt, zero-mul, mod-one, pow-suc}
use native.Mathlib.Omega.{arith}
use lib.Bits.{bit_xor, xor_mod, xor_shifted, xor_zero_r}
use lib.ListN.{length, get_or, take}
use lib.Pow.{pow_pos, pow-add, mod-pow-add, shl_lt}
use lib.Seq.{take-suc}
use Rattle.bits.specs.Bits.{bits}
use Rattle.checksum.specs.Qex.{bring_down, divide, qex}
use Rattle.checksum.specs.Register.{fed, register, crc14, unused}
use Rattle.checksum.proofs.Xor.{xor_assoc}
use Rattle.checksum.proofs.Turn.{low_turn, low_turn_low, low_turn_xor, low_turn_double}
use Rattle.bits.proofs.AreBits.{are_bits_take}
use Rattle.checksum.proofs.Division.{qex_more}
use Rattle.checksum.proofs.Fed.{fed-start, fed-inside, unused-start, unused-inside}
use Rattle.bits.proofs.Digits.{Bytes, bits_are, bits-length, bits_at}

-- a byte's low bits with the uppermost of them at the top of the register: that one, and the rest
module _ (x j k : ℕ) (e : j + k ≡ 7) where
  place : 2 ^ k * 2 ^ (6 + j) ≡ 2 ^ 13
  place = let s : k + (6 + j) ≡ 13 = omega arith in sym (pow-add 2 k (6 + j)) ∙ ap (λ (n : ℕ). 2 ^ n) s

  rest_lt : x % 2 ^ k * 2 ^ (6 + j) < 2 ^ 13
  rest_lt =
      let s : k + (6 + j) ≡ 13 = omega arith in
      rw (s) at (shl_lt k (6 + j) (mod-lt x (pow_pos k)))

  top-and-rest : x % 2 ^ (1 + k) * 2 ^ (6 + j) ≡ bit_xor (x / 2 ^ k % 2 * 2 ^ 13) (x % 2 ^ k * 2 ^ (6 + j))
  top-and-rest =
      ap (λ (n : ℕ). n * 2 ^ (6 + j)) (mod-pow-add x 1 k)
      ∙ add-mul (x / 2 ^ k % 2 * 2 ^ k) (x % 2 ^ k) (2 ^ (6 + j))
      ∙ ap (λ (n : ℕ). n + x % 2 ^ k * 2 ^ (6 + j)) (mul_assoc (x / 2 ^ k % 2) (2 ^ k) (2 ^ (6 + j)) ∙ ap (λ (n : ℕ). x / 2 ^ k % 2 * n) place)
      ∙ sym (xor_shifted (x / 2 ^ k % 2) 13 (x % 2 ^ k * 2 ^ (6 + j)) rest_lt)

  -- a turn takes that one in and moves the rest up
  turned : (q : ℕ) → low_turn (bit_xor q (x % 2 ^ (1 + k) * 2 ^ (6 + j)))
      ≡ bit_xor (low_turn (bit_xor q (x / 2 ^ k % 2 * 2 ^ 13))) (x % 2 ^ k * 2 ^ (6 + j) * 2)
  turned q =
      ap (λ (n : ℕ). low_turn (bit_xor q n)) top-and-rest
      ∙ ap low_turn (sym (xor_assoc q (x / 2 ^ k % 2 * 2 ^ 13) (x % 2 ^ k * 2 ^ (6 + j))))
      ∙ low_turn_xor (bit_xor q (x / 2 ^ k % 2 * 2 ^ 13)) (x % 2 ^ k * 2 ^ (6 + j))
      ∙ ap (bit_xor (low_turn (bit_xor q (x / 2 ^ k % 2 * 2 ^ 13)))) (low_turn_double (x % 2 ^ k * 2 ^ (6 + j)) rest_lt)

-- the bytes' byte n / 8, and the bits so far
abbrev byte_at : List ℕ → ℕ → ℕ
byte_at m n = get_or m (n / 8) 0

abbrev so_far : List ℕ → ℕ → ℕ
so_far m n = qex (take n (bits m))

module _ (m : List ℕ) (n : ℕ) where
  -- what is left of the byte after bit n, in its place
  left_over : Dec (n % 8 < 7) → byte_at m n % 2 ^ (7 - n % 8) * 2 ^ (6 + n % 8) * 2 ≡ unused m (suc n) * 2 ^ (6 + suc n % 8)
  left_over (yes k) =
      let inside : suc n % 8 ≡ 0 → ⊥ = λ e. omega arith in
      let same : n / 8 ≡ suc n / 8 = omega arith in
      let fewer : 7 - n % 8 ≡ 8 - suc n % 8 = omega arith in
      let up : suc (6 + n % 8) ≡ 6 + suc n % 8 = omega arith in
      mul_assoc (byte_at m n % 2 ^ (7 - n % 8)) (2 ^ (6 + n % 8)) 2
      ∙ ap₂ (λ (x y : ℕ). x * y) (ap₂ (λ (x y : ℕ). get_or m x 0 % 2 ^ y) same fewer ∙ sym (unused-inside m (suc n) inside))
      (sym (pow-suc 2 (6 + n % 8)) ∙ ap (λ (x : ℕ). 2 ^ x) up)
  left_over (no k) =
      let none : 7 - n % 8 ≡ 0 = omega arith in
      let start : suc n % 8 ≡ 0 = omega arith in
      ap (λ (x : ℕ). x * 2 ^ (6 + n % 8) * 2) (ap (λ (x : ℕ). byte_at m n % 2 ^ x) none ∙ mod-one (byte_at m n))
      ∙ ap (λ (x : ℕ). x * 2) (zero-mul (2 ^ (6 + n % 8)))
      ∙ sym (ap (λ (x : ℕ). x * 2 ^ (6 + suc n % 8)) (unused-start m (suc n) start) ∙ zero-mul (2 ^ (6 + suc n % 8)))

  module _ (bytes : Bytes m) (law : crc14 m n ≡ bit_xor (so_far m n) (unused m n * 2 ^ (6 + n % 8))) where
    -- what is held before the turn of bit n
    held : Dec (0 < n % 8) → fed m n (register m n) % 2 ^ 14 ≡ bit_xor (so_far m n) (byte_at m n % 2 ^ (8 - n % 8) * 2 ^ (6 + n % 8))
    unfolding crc14
    held (yes k) =
        let inside : n % 8 ≡ 0 → ⊥ = λ e. omega arith in
        ap (λ (x : ℕ). x % 2 ^ 14) (fed-inside m n (register m n) inside)
        ∙ law
        ∙ ap (λ (x : ℕ). bit_xor (so_far m n) (x * 2 ^ (6 + n % 8))) (unused-inside m n inside)
    held (no k) =
        let start : n % 8 ≡ 0 = omega arith in
        let x = byte_at m n in
        let whole : x * 2 ^ 6 ≡ x % 2 ^ 8 * 2 ^ 6 = omega (arith, bytes (n / 8)) in
        ap (λ (y : ℕ). y % 2 ^ 14) (fed-start m n (register m n) start)
        ∙ xor_mod (register m n) (x * 2 ^ 6) 14
        ∙ ap₂ bit_xor
        (law
        ∙ ap (λ (y : ℕ). bit_xor (so_far m n) (y * 2 ^ (6 + n % 8))) (unused-start m n start)
        ∙ ap (bit_xor (so_far m n)) (zero-mul (2 ^ (6 + n % 8)))
        ∙ xor_zero_r (so_far m n))
        (mod-eq_of_lt (omega (arith, bytes (n / 8))) ∙ whole)
        ∙ ap (λ (y : ℕ). bit_xor (so_far m n) (x % 2 ^ (8 - y) * 2 ^ (6 + y))) (sym start)

    -- the law at the next bit
    next : n < 8 * length m → crc14 m (suc n) ≡ bit_xor (so_far m (suc n)) (unused m (suc n) * 2 ^ (6 + suc n % 8))
    unfolding crc14 register
    next h =
        let x = byte_at m n in
        let j = n % 8 in
        let k = 7 - n % 8 in
        let more : 8 - n % 8 ≡ 1 + (7 - n % 8) = omega arith in
        let in_list : n < length (bits m) = rw (bits-length m) h in
        let here = bits_at m n h in
        low_turn_low (fed m n (register m n))
        ∙ ap low_turn (held (dec_lt 0 (n % 8)) ∙ ap (λ (y : ℕ). bit_xor (so_far m n) (x % 2 ^ y * 2 ^ (6 + j))) more)
        ∙ turned x j k (omega arith) (so_far m n)
        ∙ ap₂ bit_xor
        (sym (qex_more (x / 2 ^ k % 2) (are_bits_take n (bits_are m)) (mod-lt (x / 2 ^ k) (pow_pos 1)))
        ∙ ap (λ (y : ℕ). qex (take n (bits m) ++ y ∷ [])) (sym here)
        ∙ ap qex (sym (take-suc (bits m) n 0 in_list)))
        (left_over (dec_lt (n % 8) 7))

-- The register's checksum is QEX's with the unused bits of the last byte XORed in, moved up by 6 places and by one more for each
-- bit of that byte that was used.
pub agreement : (m : List ℕ) (n : ℕ) → Bytes m → n ≤ 8 * length m → crc14 m n ≡ bit_xor (qex (take n (bits m))) (unused m n * 2 ^ (6 + n % 8))
unfolding crc14 register unused qex divide bring_down
agreement m zero bytes h = refl
agreement m (suc n) bytes h = next m n bytes (agreement m n bytes (omega arith)) (omega arith)

-- So the two are equal wherever the unused low bits of the last byte are zero.
pub register-qex : (m : List ℕ) (n : ℕ) → Bytes m → n ≤ 8 * length m → unused m n ≡ 0 → crc14 m n ≡ qex (take n (bits m))
register-qex m n bytes h e =
    agreement m n bytes h
    ∙ ap (λ (x : ℕ). bit_xor (so_far m n) (x * 2 ^ (6 + n % 8))) e
    ∙ ap (bit_xor (so_far m n)) (zero-mul (2 ^ (6 + n % 8)))
    ∙ xor_zero_r (so_far m n)
