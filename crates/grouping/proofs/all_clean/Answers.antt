-- `grouping::all_clean` meets its contract: `all` answers what the definition does, which goes through the frames in the same way.
use Rattle.std.proofs.Common.{rules, tests, refl, ◌∙◌, ◌&&◌}
use Rattle.std.specs.List.{list_all}
use Rattle.std.proofs.lemmas.Iterator.{YieldsList-from_slice}
use Rattle.std.proofs.lemmas.Iterator.Search.{all_from_yields_List}
use Rattle.std.proofs.lemmas.List.Recursion.{same_from_clauses}
use Rattle.grouping.specs.Grouping.{all}
use Rattle.grouping.proofs.all_clean.Goals as goal

pub returns : goal.returns
unfolding all
returns c =
    let clean = c.args.clean.now in
    all_from_yields_List (λ t. t) _ _ _ c.all.ensures.ran (YieldsList-from_slice clean cc) (λ x b q k. search (rules, tests))
    ∙ same_from_clauses (list_all (λ t. t)) all (λ t b. t && b) refl (λ _ _. refl) (λ _ _. refl) clean
