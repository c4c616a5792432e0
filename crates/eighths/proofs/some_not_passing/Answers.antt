-- `eighths::some_not_passing` meets its contract: `any` answers what the definition does.
use Rattle.std.proofs.Common.{rules, tests, not, ◌∙◌}
use Rattle.std.proofs.lemmas.Iterator.{YieldsList-from_slice}
use Rattle.std.proofs.lemmas.Iterator.Search.{any_from_yields_List}
use Rattle.soft_bytes.specs.Values.{passes}
use Rattle.eighths.proofs.Lists.{any-some}
use Rattle.eighths.proofs.some_not_passing.Goals as goal

pub returns : goal.returns
returns c =
    let values = c.args.values.now in
    any_from_yields_List (λ v. not (passes v)) _ _ _ c.any.ensures.ran (YieldsList-from_slice values cc) (λ x b q k. search (rules, tests))
    ∙ any-some (λ v. not (passes v)) values
