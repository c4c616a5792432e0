-- `construction::construct_with` meets its contract: the columns are made one after another.
use Rattle.std.proofs.Common.{◌≡◌, ◌+◌, ◌*◌, ◌≤◌, length, ◌∙◌, arith}
use Rattle.construction.proofs.Made.{built_none, built_begun, built_more, built_all}
use Rattle.construction.proofs.construct_with.Goals as goal

pub loop-n-init : goal.loop-n-init
loop-n-init c = built_none _ c.requires

pub column-relaxed-requires : goal.column-relaxed-requires
column-relaxed-requires c =
    let b = c.loop-n.invariant in
    let pre = c.requires in
    let room : 3 * c.loop-n.n + 3 ≤ length c.loop-n.rows = omega (arith, pre.room) in
    rw b.ready.rows_are (built_begun b room (omega (arith, pre.few)))

pub overflow_add-relaxed : goal.overflow_add-relaxed
overflow_add-relaxed c = omega (arith, c.column-relaxed.ensures.at_most, c.loop-n.invariant.at_most, c.requires.few)

pub loop-n-preserved : goal.loop-n-preserved
loop-n-preserved c =
    let b = c.loop-n.invariant in
    built_more b (rw b.ready.rows_are at c.column-relaxed.ensures)

pub returns : goal.returns
returns c =
    let all : c.loop-n.n ≡ c.args.k = omega arith in
    built_all (c.loop-n.auto.rows ∙ c.requires.room) (rw all at c.loop-n.invariant)
