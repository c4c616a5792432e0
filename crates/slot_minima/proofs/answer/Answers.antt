-- `slot_minima::answer` meets its contract: step by step it is what the definition computes. Assumes nothing.
use lib.Ieee.{div, of_bits}
use Rattle.slot_minima.specs.Minima.{answer_to}
use Rattle.slot_minima.proofs.answer.Goals as goal

pub returns : goal.returns
unfolding answer_to div of_bits
returns c = cc
