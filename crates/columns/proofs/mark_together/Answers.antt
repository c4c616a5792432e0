-- `columns::mark_together` meets its contract: one column after another, each a chunk of three rows.
use Rattle.std.proofs.Common.{◌≡◌, ◌*◌, length, length-drop, length-take, length-set, ap, ◌∙◌, arith}
use Rattle.std.proofs.lemmas.List.{length_push}
use Rattle.lists.proofs.Below.{below-within}
use Rattle.columns.specs.Tables.{column_at}
use Rattle.columns.proofs.Marks.{chunk-few, chunk-is, chunk-more, joined-none, joined_more, joined-all}
use Rattle.columns.proofs.mark_together.Goals as goal

pub loop-column-init : goal.loop-column-init
loop-column-init c = record { few = omega arith; size = cc; left = cc; marked = joined-none _ _ _ }

pub mark_column-requires : goal.mark_column-requires
unfolding column_at
mark_column-requires c =
    let inv = c.loop-column.invariant in
    let cut = c.in-Some.ensures.steps.1 in
    let pre = c.requires in
    let k = length c.loop-column.yielded in
    let few = chunk-few _ c.args.n k _ _ _ pre.n_in_bounds inv.left cut.0 (cut.1 ∙ inv.size) in
    rw (chunk-is _ c.args.n k _ _ _ pre.n_in_bounds inv.left cut.0 (cut.1 ∙ inv.size), c.loop-column.auto.marks, length-set)
    (below-within _ (3 * c.args.n) (3 * k) 3 _ (omega arith) pre.n_in_bounds pre.below)

pub loop-column-preserved : goal.loop-column-preserved
loop-column-preserved c =
    let inv = c.loop-column.invariant in
    let cut = c.in-Some.ensures.steps.1 in
    let long = c.requires.n_in_bounds in
    let k = length c.loop-column.yielded in
    let three = cut.1 ∙ inv.size in
    rw (length_push c.loop-column.yielded c.in-Some.column)
    record {
      few = chunk-few _ c.args.n k _ _ _ long inv.left cut.0 three;
      size = cc;
      left = chunk-more _ c.args.n k _ _ _ long inv.left cut.0 three;
      marked =
          joined_more _ _ _ _ _ _ c.loop-column.auto.marks inv.marked (rw (chunk-is _ c.args.n k _ _ _ long inv.left cut.0 three) at c.mark_column.ensures);
    }

pub returns : goal.returns
returns c =
    let inv = c.loop-column.invariant in
    let last = c.in-None.ensures.steps.1 in
    let all : length c.loop-column.yielded ≡ c.args.n =
    omega (arith, last.0, inv.size, c.requires.n_in_bounds, simp (length-drop, length-take) at (ap length inv.left)) in
    joined-all _ _ _ _ (rw all at inv.marked)
