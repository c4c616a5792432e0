-- `clean::is_clean` meets its contract, test by test.
use mathlib.Core.Path.{sym, ◌∙◌}
use borrow.Author.Tests.{eq-eqb, ne_eqb}
use Rattle.clean.specs.Clean.{frame_clean}
use Rattle.clean.proofs.is_clean.Goals as goal

pub returns-then-open : goal.returns-then-open
unfolding frame_clean
returns-then-open c = simp (ne_eqb _ _ c.if-open.true)

pub returns-then-any_nan : goal.returns-then-any_nan
unfolding frame_clean
returns-then-any_nan c = simp (eq-eqb _ _ c.if-open.false, sym c.any_nan.ensures ∙ c.if-any_nan.true)

pub checksum_right-requires : goal.checksum_right-requires
checksum_right-requires c = c.requires c.if-code-eq3.true

pub returns-then-code-eq3 : goal.returns-then-code-eq3
unfolding frame_clean
returns-then-code-eq3 c = simp (
  eq-eqb _ _ c.if-open.false,
  sym c.any_nan.ensures
      ∙ c.if-any_nan.false,
  eq-eqb _ _ c.if-code-eq3.true,
) c.checksum_right.ensures

pub returns : goal.returns
unfolding frame_clean
returns c = simp (eq-eqb _ _ c.if-open.false, sym c.any_nan.ensures ∙ c.if-any_nan.false, ne_eqb _ _ c.if-code-eq3.false)
