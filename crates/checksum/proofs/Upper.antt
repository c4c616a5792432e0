-- The register in the upper bits of a 32-bit word goes with the definition's, turn by turn: 18 places up, shift and XOR are the same and the top bit is the
-- word's; inside a byte nothing is taken in. Assumes nothing.
use mathlib.Core.Path.{◌≡◌, refl, sym, ap, ap₂, ◌∙◌}
use mathlib.Core.List.{List}
use Prim.Native.Nat.{ℕ, zero, suc, ◌+◌, ◌-◌, ◌*◌, ◌/◌, ◌%◌, ◌^◌, ◌<◌}
use native.Mathlib.Nat.{mod-lt, mod-eq_of_lt, mul-div-mul_right, add-mul-mod_self_right}
use native.Mathlib.Omega.{arith}
use lib.Arith.{lt_of_le-ne}
use lib.Bits.{bit_xor, xor_mod, xor_shr}
use lib.ListN.{get_or}
use lib.Pow.{pow_pos, field}
use Rattle.checksum.specs.Register.{turn, register, crc14}
use Rattle.checksum.specs.Upper.{upper, turn_up, turns_up, taken_in}
use Rattle.checksum.proofs.Fed.{fed-start, fed-inside}
use Rattle.checksum.proofs.Turn.{low_turn, low_turn_low}
use Rattle.checksum.proofs.Xor.{xor-right, xor-middle, xor_shl, xor-times}

low_up : (q : ℕ) → q < 2 ^ 14 → turn_up (q * 2 ^ 18) ≡ low_turn q * 2 ^ 18
unfolding turn_up low_turn turn
low_up q h =
    let shifted : q * 2 ^ 18 * 2 % 2 ^ 32 ≡ q * 2 % 2 ^ 16 % 2 ^ 14 * 2 ^ 18 = omega arith in
    let whole : q * 2 ^ 18 / 2 ^ 31 ≡ q / 2 ^ 13 % 2 = mul-div-mul_right q (2 ^ 13) (pow_pos 18) ∙ omega arith in
    let small : q / 2 ^ 13 % 2 * 0x2757 ≡ q / 2 ^ 13 % 2 * 0x2757 % 2 ^ 14 = omega arith in
    let top : q * 2 ^ 18 / 2 ^ 31 * 0x9D5C_0000 ≡ q / 2 ^ 13 % 2 * 0x2757 % 2 ^ 14 * 2 ^ 18 = omega arith in
    ap₂ bit_xor shifted top
    ∙ sym (xor_shl (q * 2 % 2 ^ 16 % 2 ^ 14) (q / 2 ^ 13 % 2 * 0x2757 % 2 ^ 14) 18)
    ∙ ap (λ (n : ℕ). n * 2 ^ 18) (sym (xor_mod (q * 2 % 2 ^ 16) (q / 2 ^ 13 % 2 * 0x2757) 14))

upper-turn : (r : ℕ) → turn_up (upper r) ≡ upper (turn r)
unfolding upper
upper-turn r = low_up (r % 2 ^ 14) (mod-lt r (pow_pos 14)) ∙ ap (λ (n : ℕ). n * 2 ^ 18) (sym (low_turn_low r))

upper_taken : (r byte : ℕ) → byte < 256 → taken_in (upper r) byte ≡ upper (bit_xor r (byte * 2 ^ 6))
unfolding upper taken_in
upper_taken r byte h =
    let placed : byte * 2 ^ 24 ≡ byte * 2 ^ 6 * 2 ^ 18 = omega arith in
    rw placed
    (sym (xor_shl (r % 2 ^ 14) (byte * 2 ^ 6) 18)
    ∙ ap (λ (n : ℕ). n * 2 ^ 18) (sym (xor_mod r (byte * 2 ^ 6) 14 ∙ ap (bit_xor (r % 2 ^ 14)) (mod-eq_of_lt (omega arith)))))

-- the first bits of byte k, one or more
pub up_byte : (m : List ℕ) (k : ℕ) → get_or m k 0 < 256 → (j : ℕ) → j < 8
    → turns_up (suc j) (taken_in (upper (register m (8 * k))) (get_or m k 0)) ≡ upper (register m (8 * k + suc j))
unfolding turns_up register
up_byte m k byte zero h =
    let start : 8 * k % 8 ≡ 0 = omega arith in
    let here : 8 * k / 8 ≡ k = omega arith in
    let next : 8 * k + 1 ≡ suc (8 * k) = omega arith in
    ap turn_up (upper_taken (register m (8 * k)) (get_or m k 0) byte)
    ∙ upper-turn (bit_xor (register m (8 * k)) (get_or m k 0 * 2 ^ 6))
    ∙ rw (next, fed-start m (8 * k) (register m (8 * k)) start, here)
up_byte m k byte (suc j) h =
    let inside : (8 * k + suc j) % 8 ≡ 0 → ⊥ = λ e. omega arith in
    let next : 8 * k + suc (suc j) ≡ suc (8 * k + suc j) = omega arith in
    ap turn_up (up_byte m k byte j (omega arith))
    ∙ upper-turn (register m (8 * k + suc j))
    ∙ rw (next, fed-inside m (8 * k + suc j) (register m (8 * k + suc j)) inside)

-- ---- two turns at once

module _ (r : ℕ) (fits : r < 2 ^ 32) where
  top_lt : r / 2 ^ 31 < 2
  top_lt = omega arith

  -- what the top bit leaves
  twice : (t : ℕ) → t < 2 → bit_xor (t * 0x9D5C_0000 * 2 % 2 ^ 32) (t * 0x9D5C_0000) ≡ t * 0xA7E4_0000
  twice zero h = refl
  twice (suc zero) h = sym (xor_shl 0xEAE 0x2757 18)
  twice (suc (suc t)) h = absurd (omega arith)

  carried : (t : ℕ) → t < 2 → t * 0x9D5C_0000 / 2 ^ 31 ≡ t
  carried zero h = refl
  carried (suc zero) h = refl
  carried (suc (suc t)) h = absurd (omega arith)

  pub two-turns : bit_xor (bit_xor (r * 4 % 2 ^ 32) (r / 2 ^ 31 * 0xA7E4_0000)) (r / 2 ^ 30 % 2 * 0x9D5C_0000) ≡ turn_up (turn_up r)
  unfolding turn_up
  two-turns =
      let t = r / 2 ^ 31 in
      let u = r / 2 ^ 30 % 2 in
      let a = r * 2 % 2 ^ 32 in
      let p = t * 0x9D5C_0000 in
      let whole : r * 4 ≡ a * 2 + r * 2 / 2 ^ 32 * 2 * 2 ^ 32 = omega arith in
      let shifted : a * 2 % 2 ^ 32 ≡ r * 4 % 2 ^ 32 = sym (ap (λ (n : ℕ). n % 2 ^ 32) whole ∙ add-mul-mod_self_right (a * 2) (r * 2 / 2 ^ 32 * 2) (2 ^ 32)) in
      let next : a / 2 ^ 31 ≡ u = field (r * 2) 1 31 ∙ ap (λ (n : ℕ). n % 2) (mul-div-mul_right r (2 ^ 30) (pow_pos 1)) in
      let up : bit_xor a p * 2 % 2 ^ 32 ≡ bit_xor (r * 4 % 2 ^ 32) (p * 2 % 2 ^ 32)
      = ap (λ (n : ℕ). n % 2 ^ 32) (xor_shl a p 1) ∙ xor_mod (a * 2) (p * 2) 32 ∙ ap (λ (n : ℕ). bit_xor n (p * 2 % 2 ^ 32)) shifted in
      let top : bit_xor a p / 2 ^ 31 ≡ bit_xor u t = xor_shr a p 31 ∙ ap₂ bit_xor next (carried t top_lt) in
      sym
      (ap₂ (λ (x y : ℕ). bit_xor x (y * 0x9D5C_0000)) up top
      ∙ ap (bit_xor (bit_xor (r * 4 % 2 ^ 32) (p * 2 % 2 ^ 32))) (xor-times u t 0x9D5C_0000 (omega arith) top_lt)
      ∙ xor-middle (r * 4 % 2 ^ 32) (p * 2 % 2 ^ 32) (u * 0x9D5C_0000) p
      ∙ ap (bit_xor (bit_xor (r * 4 % 2 ^ 32) (u * 0x9D5C_0000))) (twice t top_lt)
      ∙ xor-right (r * 4 % 2 ^ 32) (u * 0x9D5C_0000) (t * 0xA7E4_0000))

-- ---- the checksum of n bits

lowered_upper : (r : ℕ) → upper r / 2 ^ 18 ≡ r % 2 ^ 14
unfolding upper
lowered_upper r = omega arith

-- where they end with a byte
pub lowered_whole : (m : List ℕ) (n : ℕ) → n % 8 ≡ 0 → upper (register m (8 * (n / 8))) / 2 ^ 18 ≡ crc14 m n
unfolding crc14
lowered_whole m n e =
    let all : 8 * (n / 8) ≡ n = omega arith in
    lowered_upper (register m (8 * (n / 8))) ∙ ap (λ (i : ℕ). register m i % 2 ^ 14) all

-- and where they end inside one
pub lowered_rest : (m : List ℕ) (n : ℕ) → (n % 8 ≡ 0 → ⊥) → get_or m (n / 8) 0 < 256
    → turns_up (n % 8) (taken_in (upper (register m (8 * (n / 8)))) (get_or m (n / 8) 0)) / 2 ^ 18 ≡ crc14 m n
unfolding crc14
lowered_rest m n some byte =
    let one : 0 < n % 8 = lt_of_le-ne (omega arith) (λ e. some (sym e)) in
    let bits : n % 8 ≡ suc (n % 8 - 1) = omega arith in
    let all : 8 * (n / 8) + suc (n % 8 - 1) ≡ n = omega arith in
    let start = taken_in (upper (register m (8 * (n / 8)))) (get_or m (n / 8) 0) in
    ap (λ (j : ℕ). turns_up j start / 2 ^ 18) bits
    ∙ ap (λ (r : ℕ). r / 2 ^ 18) (up_byte m (n / 8) byte (n % 8 - 1) (omega arith))
    ∙ lowered_upper (register m (8 * (n / 8) + suc (n % 8 - 1)))
    ∙ ap (λ (i : ℕ). register m i % 2 ^ 14) all
