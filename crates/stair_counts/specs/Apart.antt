-- Where two words differ along their parity bits: what counting by a second encoding counts (`proofs/Recount.antt`: it is the word's count).
use Rattle.std.specs.Prelude.{ℕ, zero, suc, ◌+◌, ◌%◌, get_or}
use Rattle.tanner.specs.Checks.{Word}
use Rattle.stairs.specs.Stairs.{bit_before}

-- 1 where the low bits of two words differ in one of row i's parity bits, its own and the one before, and not in both
unfoldable pub apart : ℕ → ℕ → Word → Word → ℕ
apart k i u w = (get_or u (k + i) 0 + get_or w (k + i) 0 + (bit_before k i u + bit_before k i w)) % 2

-- how many of n rows from row i on are such
unfoldable pub rows_apart : ℕ → ℕ → ℕ → Word → Word → ℕ
rows_apart k i zero u w = 0
rows_apart k i (suc n) u w = apart k i u w + rows_apart k (suc i) n u w
