-- A turn of the register, and its 14 low bits alone: both are linear over XOR, and the low bits depend on the low bits alone.
use mathlib.Core.Path.{◌≡◌, refl, sym, ap, ap₂, ◌∙◌}
use Prim.Native.Nat.{ℕ, zero, suc, ◌*◌, ◌/◌, ◌%◌, ◌^◌, ◌<◌}
use native.Mathlib.Nat.{mod-lt, mod-mod}
use native.Mathlib.Omega.{arith}
use lib.Bits.{bit_xor, xor_shr, xor_mod, xor_zero_r}
use lib.Pow.{pow_pos, field, mod-mod-pow}
use Rattle.checksum.specs.Register.{turn}
use Rattle.checksum.proofs.Xor.{xor_shl, xor-times, xor-middle}

top_lt : (r : ℕ) → r / 2 ^ 13 % 2 < 2
top_lt r = mod-lt (r / 2 ^ 13) (pow_pos 1)

top_xor : (a b : ℕ) → bit_xor a b / 2 ^ 13 % 2 ≡ bit_xor (a / 2 ^ 13 % 2) (b / 2 ^ 13 % 2)
top_xor a b = ap (λ (n : ℕ). n % 2) (xor_shr a b 13) ∙ xor_mod (a / 2 ^ 13) (b / 2 ^ 13) 1

up-xor : (a b : ℕ) → bit_xor a b * 2 % 2 ^ 16 ≡ bit_xor (a * 2 % 2 ^ 16) (b * 2 % 2 ^ 16)
up-xor a b = ap (λ (n : ℕ). n % 2 ^ 16) (xor_shl a b 1) ∙ xor_mod (a * 2) (b * 2) 16

turn-xor : (a b : ℕ) → turn (bit_xor a b) ≡ bit_xor (turn a) (turn b)
unfolding turn
turn-xor a b =
    ap₂ (λ (x y : ℕ). bit_xor x (y * 0x2757)) (up-xor a b) (top_xor a b)
    ∙ ap (bit_xor (bit_xor (a * 2 % 2 ^ 16) (b * 2 % 2 ^ 16))) (xor-times (a / 2 ^ 13 % 2) (b / 2 ^ 13 % 2) 0x2757 (top_lt a) (top_lt b))
    ∙ xor-middle (a * 2 % 2 ^ 16) (b * 2 % 2 ^ 16) (a / 2 ^ 13 % 2 * 0x2757) (b / 2 ^ 13 % 2 * 0x2757)

-- the 14 low bits after a turn
unfoldable pub low_turn : ℕ → ℕ
low_turn r = turn r % 2 ^ 14

pub low_turn_lt : (r : ℕ) → low_turn r < 2 ^ 14
unfolding low_turn
low_turn_lt r = mod-lt (turn r) (pow_pos 14)

pub low_turn_xor : (a b : ℕ) → low_turn (bit_xor a b) ≡ bit_xor (low_turn a) (low_turn b)
unfolding low_turn
low_turn_xor a b = ap (λ (n : ℕ). n % 2 ^ 14) (turn-xor a b) ∙ xor_mod (turn a) (turn b) 14

-- what stands above them has no part in it
pub low_turn_low : (r : ℕ) → turn r % 2 ^ 14 ≡ low_turn (r % 2 ^ 14)
unfolding low_turn turn
low_turn_low r =
    let mid : r * 2 % 2 ^ 14 ≡ r % 2 ^ 14 * 2 % 2 ^ 14 = omega arith in
    let up : r * 2 % 2 ^ 16 % 2 ^ 14 ≡ r % 2 ^ 14 * 2 % 2 ^ 16 % 2 ^ 14 =
    mod-mod-pow (r * 2) 2 14 ∙ mid ∙ sym (mod-mod-pow (r % 2 ^ 14 * 2) 2 14)
    in
    let top = sym (ap (λ (n : ℕ). n % 2) (field r 1 13) ∙ mod-mod (r / 2 ^ 13) 2) in
    xor_mod (r * 2 % 2 ^ 16) (r / 2 ^ 13 % 2 * 0x2757) 14
    ∙ ap₂ (λ (x y : ℕ). bit_xor x (y * 0x2757 % 2 ^ 14)) up top
    ∙ sym (xor_mod (r % 2 ^ 14 * 2 % 2 ^ 16) (r % 2 ^ 14 / 2 ^ 13 % 2 * 0x2757) 14)

-- with the top bit clear it doubles
pub low_turn_double : (r : ℕ) → r < 2 ^ 13 → low_turn r ≡ r * 2
unfolding low_turn turn
low_turn_double r h =
    let clear : r / 2 ^ 13 % 2 * 0x2757 ≡ 0 = omega arith in
    let low : r * 2 % 2 ^ 16 % 2 ^ 14 ≡ r * 2 = omega arith in
    ap (λ (n : ℕ). bit_xor (r * 2 % 2 ^ 16) n % 2 ^ 14) clear ∙ ap (λ (n : ℕ). n % 2 ^ 14) (xor_zero_r (r * 2 % 2 ^ 16)) ∙ low

-- n of them
unfoldable pub low_turns : ℕ → ℕ → ℕ
low_turns zero r = r
low_turns (suc n) r = low_turn (low_turns n r)

pub low_turns_xor : (n a b : ℕ) → low_turns n (bit_xor a b) ≡ bit_xor (low_turns n a) (low_turns n b)
unfolding low_turns
low_turns_xor zero a b = refl
low_turns_xor (suc n) a b = ap low_turn (low_turns_xor n a b) ∙ low_turn_xor (low_turns n a) (low_turns n b)

pub low_turns_first : (n r : ℕ) → low_turns n (low_turn r) ≡ low_turn (low_turns n r)
unfolding low_turns
low_turns_first zero r = refl
low_turns_first (suc n) r = ap low_turn (low_turns_first n r)

-- thirteen of them bring the lowest bit to the top
pub low_turns_bit : (b : ℕ) → b < 2 → low_turns 13 b ≡ b * 2 ^ 13
unfolding low_turns low_turn turn
low_turns_bit zero h = refl
low_turns_bit (suc zero) h = refl
low_turns_bit (suc (suc b)) h = absurd (omega arith)
