-- QEX's long division in terms of turns of the register's low bits: one step down is a turn with the bit XORed in, so a further
-- bit enters the checksum at the top of the register.
use mathlib.Core.Path.{◌≡◌, refl, sym, ap, ap₂, ◌∙◌}
use mathlib.Core.List.{List, [], ◌∷◌, ◌++◌}
use Prim.Native.Nat.{ℕ, zero, suc, ◌+◌, ◌*◌, ◌/◌, ◌%◌, ◌^◌, ◌<◌}
use native.Mathlib.Nat.{mod-eq_of_lt}
use native.Mathlib.Omega.{arith}
use lib.Bits.{bit_xor, xor_lt, xor_mod, xor_block, xor_self, xor_shifted, xor_zero_r}
use lib.ListN.{replicate}
use lib.Pow.{mod-mod-pow}
use Rattle.bits.proofs.AreBits.{AreBits, none, more, are_bits_append}
use Rattle.checksum.specs.Qex.{bring_down, divide, qex}
use Rattle.checksum.specs.Register.{turn}
use Rattle.checksum.proofs.Xor.{xor-right}
use Rattle.checksum.proofs.Turn.{low_turn, low_turn_lt, low_turn_xor, low_turns, low_turns_xor, low_turns_first, low_turns_bit}

-- the remainder's parts: bit 13, and those below it
low_parts : (r : ℕ) → r < 2 ^ 14 → low_turn r ≡ bit_xor (r % 2 ^ 13 * 2) (r / 2 ^ 13 * 0x2757)
unfolding low_turn turn
low_parts r h =
    let mid : r * 2 % 2 ^ 14 ≡ r % 2 ^ 13 * 2 = omega arith in
    let up = mod-mod-pow (r * 2) 2 14 ∙ mid in
    let bit : r / 2 ^ 13 < 2 = omega arith in
    let top = ap (λ (n : ℕ). n * 0x2757 % 2 ^ 14) (mod-eq_of_lt bit) ∙ mod-eq_of_lt (omega arith) in
    xor_mod (r * 2 % 2 ^ 16) (r / 2 ^ 13 % 2 * 0x2757) 14 ∙ ap₂ bit_xor up top

down_parts : (r b : ℕ) → r < 2 ^ 14 → b < 2 → bring_down r b ≡ bit_xor (r % 2 ^ 13 * 2 + b) (r / 2 ^ 13 * 0x2757)
unfolding bring_down
down_parts r b h k =
    let h' = r / 2 ^ 13 in
    let low = r % 2 ^ 13 * 2 + b in
    let whole : r * 2 + b ≡ h' * 2 ^ 14 + low = omega arith in
    let off : (r * 2 + b) / 2 ^ 14 * 0x6757 ≡ h' * 2 ^ 14 + h' * 0x2757 = omega arith in
    ap₂ bit_xor whole off
    ∙ xor_block 14 h' h' low (h' * 0x2757) (omega arith) (omega arith)
    ∙ ap (λ (n : ℕ). n * 2 ^ 14 + bit_xor low (h' * 0x2757)) (xor_self h')
    ∙ omega arith

bring_down-turn : (r b : ℕ) → r < 2 ^ 14 → b < 2 → bring_down r b ≡ bit_xor (low_turn r) b
bring_down-turn r b h k =
    down_parts r b h k
    ∙ ap (λ (n : ℕ). bit_xor n (r / 2 ^ 13 * 0x2757)) (sym (xor_shifted (r % 2 ^ 13) 1 b k))
    ∙ xor-right (r % 2 ^ 13 * 2) b (r / 2 ^ 13 * 0x2757)
    ∙ ap (λ (n : ℕ). bit_xor n b) (sym (low_parts r h))

bring_down-lt : (r b : ℕ) → r < 2 ^ 14 → b < 2 → bring_down r b < 2 ^ 14
bring_down-lt r b h k = rw (bring_down-turn r b h k) (xor_lt 14 (low_turn r) b (low_turn_lt r) (omega arith))

divide-lt : {bs : List ℕ} (r : ℕ) → r < 2 ^ 14 → AreBits bs → divide r bs < 2 ^ 14
unfolding divide
divide-lt r h none = h
divide-lt r h (more {b = b} k ks) = divide-lt (bring_down r b) (bring_down-lt r b h k) ks

divide_append : (r : ℕ) (xs ys : List ℕ) → divide r (xs ++ ys) ≡ divide (divide r xs) ys
unfolding divide
divide_append r [] ys = refl
divide_append r (b ∷ xs) ys = divide_append (bring_down r b) xs ys

divide_zeros : (n r : ℕ) → r < 2 ^ 14 → divide r (replicate n 0) ≡ low_turns n r
unfolding divide low_turns
divide_zeros zero r h = refl
divide_zeros (suc n) r h =
    ap (λ (q : ℕ). divide q (replicate n 0)) (bring_down-turn r 0 h (omega arith) ∙ xor_zero_r (low_turn r))
    ∙ divide_zeros n (low_turn r) (low_turn_lt r)
    ∙ low_turns_first n r

qex-turns : {bs : List ℕ} → AreBits bs → qex bs ≡ low_turns 14 (divide 0 bs)
unfolding qex
qex-turns {bs} h = divide_append 0 bs (replicate 14 0) ∙ divide_zeros 14 (divide 0 bs) (divide-lt 0 (omega arith) h)

pub qex-lt : {bs : List ℕ} → AreBits bs → qex bs < 2 ^ 14
unfolding low_turns
qex-lt {bs} h = rw (qex-turns h) (low_turn_lt (low_turns 13 (divide 0 bs)))

-- one bit more
pub qex_more : {bs : List ℕ} (b : ℕ) → AreBits bs → b < 2 → qex (bs ++ b ∷ []) ≡ low_turn (bit_xor (qex bs) (b * 2 ^ 13))
unfolding low_turns divide
qex_more {bs} b h k =
    let d = divide 0 bs in
    qex-turns (are_bits_append h (more k none))
    ∙ ap (low_turns 14) (divide_append 0 bs (b ∷ []) ∙ bring_down-turn d b (divide-lt 0 (omega arith) h) k)
    ∙ low_turns_xor 14 (low_turn d) b
    ∙ ap₂ bit_xor (low_turns_first 14 d) (ap low_turn (low_turns_bit b k))
    ∙ sym (low_turn_xor (low_turns 14 d) (b * 2 ^ 13))
    ∙ ap (λ (n : ℕ). low_turn (bit_xor n (b * 2 ^ 13))) (sym (qex-turns h))
