-- `one_line::first_field` meets its contract: nothing where the count is 0, else the field. Assumes nothing.
use borrow.Author.Tests.{eq-eqb, ne_eqb}
use Rattle.text.proofs.Put.{nothing}
use Rattle.one_line.specs.Line.{first_field}
use Rattle.one_line.proofs.first_field.Goals as goal

pub returns-then-count-eq0 : goal.returns-then-count-eq0
unfolding first_field
returns-then-count-eq0 c = rw (eq-eqb _ _ c.if-count-eq0.true) (nothing _ _)

pub put_field-requires : goal.put_field-requires
unfolding first_field
put_field-requires c = rw (ne_eqb _ _ c.if-count-eq0.false) at c.requires

pub returns : goal.returns
unfolding first_field
returns c = let done = c in
    rw (ne_eqb _ _ done.if-count-eq0.false) done.put_field.ensures
