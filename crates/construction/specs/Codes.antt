-- The three staircase codes: document 01, "Number 0 is `N512R12` (N 512, K 256), 1 is `N576R23` (576, 384), 2 is `N512R34` (512, 384). M = N - K".
use Rattle.std.specs.Prelude.{List, ℕ, ◌+◌}
use Rattle.construction.specs.Columns.{rows_of, made}

-- "Seeds are those of `code_seed`."
pub record Code : Type 0 where
  pub k : ℕ
  pub m : ℕ
  pub seed : ℕ

-- N, the block length: "M = N - K"
abbrev pub block_length : Code → ℕ
block_length c = c.k + c.m

abbrev pub n512r12 : Code
n512r12 = record { k = 256; m = 256; seed = 0x4C44_5043_3531_3200 }

abbrev pub n576r23 : Code
n576r23 = record { k = 384; m = 192; seed = 0x4C44_5043_3531_3201 }

abbrev pub n512r34 : Code
n512r34 = record { k = 384; m = 128; seed = 0x4C44_5043_3531_3202 }

-- the rows of the code's message columns, three a column
abbrev pub message_rows : Code → List ℕ
message_rows c = rows_of c.k c.m c.seed

-- how many picks were relaxed
abbrev pub relaxed_picks : Code → ℕ
relaxed_picks c = (made c.k c.m c.seed).relaxed
