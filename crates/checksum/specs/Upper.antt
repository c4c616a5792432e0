-- The register of `Register.antt` as the code holds it: its 14 low bits in the upper 14 bits of a 32-bit word, the word's other bits 0.
-- That the two go together is `up_byte` (proofs/Upper.antt).
use Rattle.std.specs.Prelude.{ℕ, zero, suc, ◌*◌, ◌/◌, ◌%◌, ◌^◌}
use Rattle.std.specs.Int.Bits.{bit_xor}

unfoldable pub upper : ℕ → ℕ
upper r = r % 2 ^ 14 * 2 ^ 18

-- one turn: one place up, what passes bit 31 being dropped, with the polynomial XORed in where bit 31 was set
unfoldable pub turn_up : ℕ → ℕ
turn_up r = bit_xor (r * 2 % 2 ^ 32) (r / 2 ^ 31 * 0x9D5C_0000)

unfoldable pub turns_up : ℕ → ℕ → ℕ
turns_up zero r = r
turns_up (suc n) r = turn_up (turns_up n r)

-- a whole byte taken in, its top bit at the word's
unfoldable pub taken_in : ℕ → ℕ → ℕ
taken_in r byte = bit_xor r (byte * 2 ^ 24)
