-- `first_reason::reason_of` meets its contract: each reason by its test, the earlier ones passed over. Assumes nothing.
use Rattle.std.proofs.Common.{None}
use mathlib.Core.Path.{◌≡◌, sym, ap, ◌∙◌}
use borrow.Author.Tests.{ne_eqb}
use lib.Seq.{length-take-le}
use Rattle.tanner.specs.Checks.{none}
use Rattle.tanner.specs.Found.{first_of}
use Rattle.numbered.specs.Codes.{size_k}
use Rattle.first_reason.specs.Reasons.{first_nan, checksum_or}
use Rattle.first_reason.proofs.reason_of.Goals as goal

pub returns-in-Some : goal.returns-in-Some
returns-in-Some c = rw (sym c.first_nan.ensures ∙ c.in-Some.is)

-- no value is NaN
pub returns-in-Some-first : goal.returns-in-Some-first
returns-in-Some-first c =
    let no_nan : first_nan 0 c.args.values.now ≡ None = sym c.first_nan.ensures ∙ c.in_default.is in
    rw (no_nan, c.in-Some-first.is)

-- for code 3 the word has 91 bits and more
pub slice_bounds-checksum_reason-end : goal.slice_bounds-checksum_reason-end
slice_bounds-checksum_reason-end c = sym (length-take-le 91 c.args.word.now (c.requires.in_bounds c.if-code-eq3.true))

pub checksum_reason-requires : goal.checksum_reason-requires
checksum_reason-requires c = length-take-le 91 c.args.word.now (c.requires.in_bounds c.if-code-eq3.true)

-- no value is NaN, and no check is unsatisfied
pub returns-then-code-eq3 : goal.returns-then-code-eq3
unfolding size_k
returns-then-code-eq3 c =
    let no_nan : first_nan 0 c.args.values.now ≡ None = sym c.first_nan.ensures ∙ c.in_default.is in
    let no_check : first_of c.args.first ≡ none = ap first_of c.in_default-first.is in
    rw (no_nan, no_check, c.if-code-eq3.true) c.checksum_reason.ensures

pub returns : goal.returns
unfolding checksum_or
returns c =
    let no_nan : first_nan 0 c.args.values.now ≡ None = sym c.first_nan.ensures ∙ c.in_default.is in
    let no_check : first_of c.args.first ≡ none = ap first_of c.in_default-first.is in
    rw (no_nan, no_check, ne_eqb _ _ c.if-code-eq3.false)
