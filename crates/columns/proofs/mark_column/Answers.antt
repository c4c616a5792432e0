-- `columns::mark_column` meets its contract, with and without the row. Assumes nothing.
use mathlib.Core.Path.{sym, ◌∙◌}
use Rattle.columns.proofs.Marks.{with_held, with_none}
use Rattle.columns.proofs.mark_column.Goals as goal

pub returns-then-contains : goal.returns-then-contains
returns-then-contains c =
    with_held _ _ _ _ (sym c.contains.ensures ∙ c.if-contains.true) c.mark_rows.ensures

pub returns-else-contains : goal.returns-else-contains
returns-else-contains c = with_none _ _ _ (sym c.contains.ensures ∙ c.if-contains.false)
