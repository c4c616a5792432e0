-- `passes::stair_first` meets its contract: the message bits' turns, then the parity bits'. Assumes nothing.
use native.Mathlib.Omega.{arith}
use Rattle.passes.proofs.Turns.{stair-first-turns}
use Rattle.passes.proofs.stair_first.Goals as goal

pub listed_first-requires : goal.listed_first-requires
listed_first-requires c = record { n_in_bounds = omega (arith, c.requires.m_in_bounds); listed = c.requires.listed }

pub returns : goal.returns
returns c = λ cs e.
    stair-first-turns cs _ _ _ _ e _ _ _ _ c.listed_first.ensures c.parity_first.ensures
