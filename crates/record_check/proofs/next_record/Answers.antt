-- `record_check::next_record` meets its contract, which is that of `next_pair` at the record's two numbers. Assumes nothing.
use Rattle.record_check.proofs.next_record.Goals as goal

pub returns : goal.returns
returns c = c.next_pair.ensures
