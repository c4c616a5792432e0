-- `filling::next_in` meets its contract. The invariant: what is noted of the positions passed, with the rest, is what the check sets. Assumes nothing.
use Rattle.filling.proofs.Steps.{Scanned}
use Rattle.filling.proofs.next_in.Given as goal

abbrev pub invariant-loop-p : goal.invariant-loop-p
invariant-loop-p l = Scanned l.positions l.word l.p-index l.unknowns l.at l.odd
