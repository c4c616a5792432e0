-- The checksum as the Rust's `ft8_crc14` computes it, in a 16-bit register. (Document 01: "Width 14, start 0, polynomial 0x2757,
-- most significant bit first; only the low 14 bits are returned. `ft8_crc14` takes in a whole byte at every eighth bit".)
use Rattle.std.specs.Prelude.{cond, List, ℕ, zero, suc, ◌-◌, ◌*◌, ◌/◌, ◌%◌, ◌^◌, eqb, get_or}
use Rattle.std.specs.Int.Bits.{bit_xor}

-- one turn: one place up, what passes bit 15 being dropped, with the polynomial XORed in where bit 13, the top bit, was set
unfoldable pub turn : ℕ → ℕ
turn r = bit_xor (r * 2 % 2 ^ 16) (r / 2 ^ 13 % 2 * 0x2757)

-- before the turn of bit i: where i starts a byte, the whole byte is XORed in, its top bit at bit 13
unfoldable pub fed : List ℕ → ℕ → ℕ → ℕ
fed m i r = cond (eqb (i % 8) 0) (bit_xor r (get_or m (i / 8) 0 * 2 ^ 6)) r

-- the register after the first n bits of the bytes m
unfoldable pub register : List ℕ → ℕ → ℕ
register m zero = 0
register m (suc i) = turn (fed m i (register m i))

unfoldable pub crc14 : List ℕ → ℕ → ℕ
crc14 m n = register m n % 2 ^ 14

-- the unused low bits of the last byte taken in, as a number: 0 where n bits end with a byte
unfoldable pub unused : List ℕ → ℕ → ℕ
unused m n = cond (eqb (n % 8) 0) 0 (get_or m (n / 8) 0 % 2 ^ (8 - n % 8))
