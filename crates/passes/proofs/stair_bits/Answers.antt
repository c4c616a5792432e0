-- `passes::stair_bits` meets its contract: the message bits' turns, then the parity bits'. Assumes nothing.
use native.Mathlib.Omega.{arith}
use Rattle.passes.proofs.Turns.{stair-bits-turns}
use Rattle.passes.proofs.stair_bits.Goals as goal

pub listed_bits-requires : goal.listed_bits-requires
listed_bits-requires c = record {
  n_in_bounds = omega (arith, c.requires.m_in_bounds);
  n_in_bounds_2 = omega (arith, c.requires.m_in_bounds_2);
  listed = c.requires.listed;
}

pub returns : goal.returns
returns c = λ cs e.
    stair-bits-turns cs _ _ _ _ e _ _ _ _ c.listed_bits.ensures c.parity_bits.ensures
