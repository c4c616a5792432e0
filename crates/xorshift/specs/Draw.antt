-- One draw of the generator, xorshift on 64 bits. (Document 01: "One draw XORs in the state shifted left 13, then right 7, then left 17;
-- the left shift drops whatever passes bit 63.")
use Rattle.std.specs.Prelude.{ℕ, zero, suc, ◌+◌, ◌*◌, ◌/◌, ◌%◌, ◌^◌}

-- exclusive or of the low n bits
unfoldable pub xor : ℕ → ℕ → ℕ → ℕ
xor zero a b = 0
xor (suc n) a b = xor n (a / 2) (b / 2) * 2 + (a + b) % 2

abbrev pub left : ℕ → ℕ → ℕ
left n s = (s * 2 ^ n) % 2 ^ 64

abbrev pub right : ℕ → ℕ → ℕ
right n s = s / 2 ^ n

-- the state with its own shift in
unfoldable pub mixed : (ℕ → ℕ) → ℕ → ℕ
mixed shift s = xor 64 s (shift s)

unfoldable pub draw : ℕ → ℕ
draw s = mixed (left 17) (mixed (right 7) (mixed (left 13) s))
