-- What the calls over a staircase code's table ask.
use Rattle.std.specs.Prelude.{◌≡◌, List, ℕ, zero, suc, ◌+◌, ◌*◌, ◌<◌, ◌≤◌, length, get_or}
use Rattle.tanner.specs.Checks.{Word}
use Rattle.lists.specs.Below.{Below}

-- m rows of `width` message positions each, all of them below k, and a word of n bytes that has room for m parity bits after those
pub record Stairs (k width m n : ℕ) (table : List ℕ) : Type 0 where
  pub size : length table ≡ m * width
  pub low : Below k table
  pub room : k + m ≤ n
  pub few : m < 65536

-- the bit before parity bit i: none for row 0
unfoldable pub bit_before : ℕ → ℕ → Word → ℕ
bit_before k zero w = 0
bit_before k (suc i) w = get_or w (k + i) 0
