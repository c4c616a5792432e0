-- The passes over the parity bits of a staircase code, from position k on: their edges lie in two slots of m, the first of which starts at `from`.
use Rattle.std.specs.Prelude.{List, ℕ, ◌+◌, ◌<◌, ◌≤◌, Float, get_or}
use Rattle.std.specs.Float.{nan}
use Rattle.softmath.specs.declared.SumKind.TheVariants.{Total}
use Rattle.slots.specs.Layout.{parity_places, scattered}
use Rattle.variable_node.specs.Passes.{Pass, bit_done}

-- turn i: parity bit i
unfoldable pub parity_turn : List Float → ℕ → ℕ → ℕ → ℕ → Pass → Pass
parity_turn llr k m from i s = bit_done Total (get_or llr (k + i) nan) (parity_places from m i) (k + i) s

unfoldable pub parity_first : List Float → ℕ → ℕ → ℕ → ℕ → List Float → List Float
parity_first llr k m from i w = scattered (get_or llr (k + i) nan) (parity_places from m i) w

-- the two slots lie in a work area of `room` messages
pub record Paired (m from room : ℕ) : Type 0 where
  pub some : 0 < m
  pub fits : from + m + m ≤ room
