-- `filling::above_two` meets its contract. The invariant: whether a byte of the rest is above 2 is whether one is. Assumes nothing.
use Rattle.std.proofs.Common.{◌≡◌, drop}
use Rattle.filling.specs.Calls.{above_two}
use Rattle.filling.proofs.above_two.Given as goal

abbrev pub invariant-loop-b : goal.invariant-loop-b
invariant-loop-b l = above_two (drop l.b-index l.word) ≡ above_two l.word
