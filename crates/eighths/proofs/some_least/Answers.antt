-- `eighths::some_least` meets its contract: `any` answers what the definition does, and the byte of -128 is the least one.
use Rattle.std.proofs.Common.{rules, tests, ◌∙◌}
use Rattle.std.proofs.lemmas.Iterator.{YieldsList-from_slice}
use Rattle.std.proofs.lemmas.Iterator.Search.{any_from_yields_List}
use Rattle.soft_bytes.specs.Values.{is_least}
use Rattle.eighths.proofs.Lists.{any-some}
use Rattle.eighths.proofs.some_least.Goals as goal

pub returns : goal.returns
returns c =
    let bytes = c.args.bytes.now in
    any_from_yields_List is_least _ _ _ c.any.ensures.ran (YieldsList-from_slice bytes cc) (λ x b q k. search (rules, tests))
    ∙ any-some is_least bytes
