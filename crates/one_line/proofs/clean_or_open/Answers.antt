-- `one_line::clean_or_open` meets its contract. Each word is one branch. Assumes nothing.
use Rattle.one_line.specs.Line.{clean_or_open}
use Rattle.one_line.proofs.clean_or_open.Goals as goal

pub put_text-requires : goal.put_text-requires
unfolding clean_or_open
put_text-requires c = rw c.if-clean.true at c.requires

pub returns-then-clean : goal.returns-then-clean
unfolding clean_or_open
returns-then-clean c = rw c.if-clean.true c.put_text.ensures

pub put_text-requires-2 : goal.put_text-requires-2
unfolding clean_or_open
put_text-requires-2 c = rw c.if-clean.false at c.requires

pub returns : goal.returns
unfolding clean_or_open
returns c = rw c.if-clean.false c.put_text-2.ensures
