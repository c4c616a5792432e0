-- `filling::next_in` meets its contract. The invariant: what is noted of the positions passed, with the rest, is what the check sets. Assumes nothing.
use Rattle.std.proofs.Common.{arith}
use Rattle.lists.specs.Below.{Below}
use Rattle.filling.proofs.Steps.{scan_start, scan-unknown, scan-known, scan-one, scan-none}
use Rattle.filling.proofs.next_in.Goals.{then-b-eq2, else-b-eq2}
use Rattle.filling.proofs.next_in.Goals as goal

pub loop-p-init : goal.loop-p-init
loop-p-init c = scan_start _ _

pub bounds-word-p : goal.bounds-word-p
unfolding Below
bounds-word-p c = c.requires c.loop-p.p-index (omega arith)

pub loop-p-preserved : goal.loop-p-preserved
loop-p-preserved c =
    let i = c.loop-p-test.true in
    let s = c.loop-p.invariant in
    elim c.if-b-eq2.branch [
      | then-b-eq2 w ↦ rw (w.unknowns-is, w.at-is) (scan-unknown _ _ _ _ _ _ i s w.if-b-eq2.true)
      | else-b-eq2 w ↦ rw (w.unknowns-is, w.at-is) (scan-known _ _ _ _ _ _ i s w.if-b-eq2.false)
    ]

pub returns-then-unknowns-eq1 : goal.returns-then-unknowns-eq1
returns-then-unknowns-eq1 c = scan-one _ _ _ _ _ _ c.loop-p-test.false c.loop-p.invariant c.if-unknowns-eq1.true

pub returns : goal.returns
returns c = scan-none _ _ _ _ _ _ c.loop-p-test.false c.loop-p.invariant c.if-unknowns-eq1.false
