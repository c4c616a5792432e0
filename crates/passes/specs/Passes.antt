-- What a pass over a code's messages does, bit by bit: the places of a bit's edges are those of its code, checks ascending.
use Rattle.std.specs.Prelude.{◌≡◌, List, ℕ, ◌+◌, ◌<◌, Float, get_or}
use Rattle.std.specs.Float.{nan}
use Rattle.softmath.specs.declared.SumKind.{SumKind}
use Rattle.tanner.specs.Checks.{Checks}
use Rattle.slots.specs.Layout.{slot_edges, scattered, three_at, parity_places}
use Rattle.variable_node.specs.Passes.{Pass, bit_done}

-- the first messages: turn b puts bit b's channel value at its places
unfoldable pub slot_first : Checks → ℕ → List Float → ℕ → List Float → List Float
slot_first cs m llr b w = scattered (get_or llr b nan) (slot_edges cs m b) w

-- a round: turn b decides bit b and puts its new messages at its places
unfoldable pub slot_turn : Checks → ℕ → SumKind → List Float → ℕ → Pass → Pass
slot_turn cs m kind llr b s = bit_done kind (get_or llr b nan) (slot_edges cs m b) b s

-- a staircase code's places: k message bits in a table, then m parity bits in two slots, the first of which starts at `from`
pub record StairEdges (cs : Checks) (k m from : ℕ) (table : List ℕ) : Type 0 where
  pub listed : (b : ℕ) → b < k → three_at table b ≡ slot_edges cs m b
  pub paired : (i : ℕ) → i < m → parity_places from m i ≡ slot_edges cs m (k + i)
