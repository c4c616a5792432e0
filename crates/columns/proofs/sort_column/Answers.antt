-- `columns::sort_column` meets its contract: the library's sort gives `sorted`.
use Rattle.columns.proofs.Sorted.{sort_is}
use Rattle.columns.proofs.sort_column.Goals as goal

pub returns : goal.returns
returns c = let s = c.sort_unstable.ensures in sort_is _ _ s.permutation s.sorted
