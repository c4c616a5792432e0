-- `grouping::sizes_fault` meets its contract. The invariant: the sizes are wrong exactly if those that are left are, for the frames that are left.
use Rattle.std.proofs.Common.{◌≡◌, ◌≤◌, drop}
use Rattle.grouping.proofs.Sizes.{wrong}
use Rattle.grouping.proofs.sizes_fault.Given as goal

abbrev pub invariant-loop-n : goal.invariant-loop-n
invariant-loop-n l = (l.left ≤ l.frames) × (wrong l.sizes l.frames ≡ wrong (drop l.n-index l.sizes) l.left)
