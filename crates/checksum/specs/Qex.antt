-- The checksum as the QEX paper on FT4 and FT8 defines it: the remainder of the bits, most significant first, followed by 14 zeros,
-- by the polynomial 0x6757 of degree 14, start 0. (Document 01: "QEX writes 0x6757: that is the same polynomial with its top term shown".)
-- A number's bits are the coefficients of a polynomial over GF(2), where both sum and difference are XOR.
use Rattle.std.specs.Prelude.{List, [], ◌∷◌, ◌++◌, ℕ, ◌+◌, ◌*◌, ◌/◌, ◌^◌, replicate}
use Rattle.std.specs.Int.Bits.{bit_xor}

-- one step of long division: the next bit is brought down behind the remainder r, and the polynomial is taken off as often
-- as the coefficient at degree 14 says, 0 or 1 times
unfoldable pub bring_down : ℕ → ℕ → ℕ
bring_down r b = bit_xor (r * 2 + b) ((r * 2 + b) / 2 ^ 14 * 0x6757)

-- the remainder after all bits, from the remainder r of what stands before them
unfoldable pub divide : ℕ → List ℕ → ℕ
divide r [] = r
divide r (b ∷ bs) = divide (bring_down r b) bs

unfoldable pub qex : List ℕ → ℕ
qex bs = divide 0 (bs ++ replicate 14 0)
