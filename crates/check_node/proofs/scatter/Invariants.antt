-- `check_node::scatter` meets its contract. The invariant: the value at the places that are left, put into the work area, is the answer. Assumes nothing.
use Rattle.std.proofs.Common.{◌≡◌, drop}
use Rattle.slots.specs.Layout.{scattered}
use Rattle.check_node.proofs.scatter.Given as goal

abbrev pub invariant-loop-p : goal.invariant-loop-p
invariant-loop-p l = scattered l.value (drop l.p-index l.places) l.work ≡ scattered l.value l.places l.initial.work
