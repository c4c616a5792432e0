-- `columns::contains` meets its contract: `any` makes the test of `holds`, one row after another.
use Rattle.std.proofs.Common.{refl, ◌∙◌, ◌||◌, eqb, rules, tests}
use Rattle.std.proofs.lemmas.Iterator.{YieldsList-from_slice}
use Rattle.std.proofs.lemmas.Iterator.Search.{any_from_yields_List}
use Rattle.std.proofs.lemmas.List.Recursion.{same_from_clauses}
use Rattle.std.specs.List.{list_any}
use Rattle.columns.specs.Rows.{holds}
use Rattle.columns.proofs.contains.Goals as goal

pub returns : goal.returns
unfolding holds
returns c =
    let r = c.args.r in
    any_from_yields_List (λ q. eqb q r) _ _ _ c.any.ensures.ran (YieldsList-from_slice c.args.column.now cc) (λ x b q k. search (rules, tests))
    ∙ same_from_clauses (list_any (λ q. eqb q r)) (λ l. holds l r) (λ q b. eqb q r || b) refl (λ q l. refl) (λ q l. refl) c.args.column.now
