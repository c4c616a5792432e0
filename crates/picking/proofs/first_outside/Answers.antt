-- `picking::first_outside` meets its contract: `find` looks through the rows in order.
use Rattle.std.proofs.Common.{◌∙◌, ◌-◌, refl, not, rules, tests}
use Rattle.std.proofs.lemmas.Iterator.{YieldsList-from_range}
use Rattle.std.proofs.lemmas.Iterator.Search.{find_from_yields_List}
use Rattle.columns.specs.Rows.{holds}
use Rattle.picking.proofs.Relaxed.{outside-first}
use Rattle.picking.proofs.first_outside.Goals as goal

pub returns : goal.returns
returns c =
    let a = c.args in
    c.unwrap_or.ensures
    ∙ outside-first a.column.now (a.to - a.from) a.from a.other _
    (find_from_yields_List (λ r. not (holds a.column.now r)) _ _ _ c.find.ensures.ran
    (YieldsList-from_range a.from a.to (a.to - a.from) (search rules) refl) (λ x b q k. search (rules, tests)))
