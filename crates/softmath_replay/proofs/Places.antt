-- The three edges of the program's bit lie within its 11 floats, and no pad lies anywhere. Assumes nothing.
use mathlib.Core.Path.{◌≡◌}
use mathlib.Core.List.{[], ◌∷◌}
use Prim.Native.Nat.{ℕ}
use native.Mathlib.Omega.{arith}
use Rattle.lists.specs.Below.{Below}
use Rattle.lists.proofs.Below.{below_none, below-cons}
use Rattle.variable_node.specs.Passes.{Listed}

pub three_edges : (n : ℕ) → 11 ≡ n → Listed 1 (3 ∷ 7 ∷ 1 ∷ []) n
three_edges n e = record {
  size = omega arith;
  low = below-cons n 3 _ (omega arith) (below-cons n 7 _ (omega arith) (below-cons n 1 _ (omega arith) (below_none n)));
}

pub no_pads : (n : ℕ) → Below n []
no_pads n = below_none n
