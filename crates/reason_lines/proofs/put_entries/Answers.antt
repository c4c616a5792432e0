-- `reason_lines::put_entries` meets its contract. The invariant: with the entries that are left put where the loop stands, the buffer holds all of them.
-- Assumes nothing.
use mathlib.Core.Path.{ap}
use native.Mathlib.Omega.{arith}
use lib.ListN.{length, length-append}
use Rattle.lists.specs.Below.{Below}
use Rattle.text.proofs.Put.{left-all, left_less, left-none}
use Rattle.reason_lines.specs.Lines.{entries}
use Rattle.reason_lines.proofs.Steps.{entries-more, entries_none}
use Rattle.reason_lines.proofs.put_entries.Goals as goal

pub loop-p-init : goal.loop-p-init
loop-p-init c =
    let a = c.args in
    left-all a.out.now a.at (entries a.positions.now a.word.now)

pub bounds-word-p : goal.bounds-word-p
unfolding Below
bounds-word-p c = c.requires.below c.loop-p.p-index c.loop-p-test.true

-- in a turn: the entry that comes next, and those after it
pub put_pair-next-requires : goal.put_pair-next-requires
put_pair-next-requires c =
    let a = c.args in
    let now = c.loop-p.invariant in
    let left = simp length-append at (ap length (entries-more a.positions.now a.word.now c.loop-p.p-index c.loop-p-test.true)) in
    omega (arith, now.end, now.size, c.requires.word_in_bounds)

pub loop-p-preserved : goal.loop-p-preserved
loop-p-preserved c =
    let a = c.args in
    let now = c.loop-p in
    let more = entries-more a.positions.now a.word.now now.p-index c.loop-p-test.true in
    left_less a.out.now a.at (entries a.positions.now a.word.now) now.out now.next _ _ _ _ c.requires.word_in_bounds (rw more at now.invariant)
    c.put_pair-next.ensures

pub returns : goal.returns
returns c =
    let a = c.args in
    let now = c.loop-p in
    let done = entries_none a.positions.now a.word.now now.p-index c.loop-p-test.false c.loop-p.auto.p-index-end in
    left-none a.out.now a.at (entries a.positions.now a.word.now) now.out now.next (rw done at now.invariant)
