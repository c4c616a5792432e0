-- `clean::any_nan` meets its contract: `any` answers what the definition does, which goes through the values in the same way.
use Rattle.std.proofs.Common.{rules, tests, refl, ◌∙◌, ◌||◌}
use Rattle.std.specs.Float.Ieee.{is_nan}
use Rattle.std.specs.List.{list_any}
use Rattle.std.proofs.lemmas.Iterator.{YieldsList-from_slice}
use Rattle.std.proofs.lemmas.Iterator.Search.{any_from_yields_List}
use Rattle.std.proofs.lemmas.List.Recursion.{same_from_clauses}
use Rattle.clean.specs.Clean.{any_nan}
use Rattle.clean.proofs.any_nan.Goals as goal

pub returns : goal.returns
unfolding any_nan
returns c =
    any_from_yields_List is_nan _ _ _ c.any.ensures.ran (YieldsList-from_slice c.args.values.now cc) (λ x b q k. search (rules, tests))
    ∙ same_from_clauses (list_any is_nan) any_nan (λ x b. is_nan x || b) refl (λ _ _. refl) (λ _ _. refl) c.args.values.now
