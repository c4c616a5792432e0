-- `figure_report::add_file` meets its contract, by what the file gave: nothing to read, a batch that is added, or one that is refused.
use Rattle.figure_report.proofs.Report.{unread-step, counted_step, refused-step}
use Rattle.figure_report.proofs.add_file.Goals as goal

pub returns-in_default : goal.returns-in_default
returns-in_default c = let a = c.args in rw c.in_default.is (unread-step a.place a.total _ _ _ c.file_line-end.ensures)

pub returns-in-Ok : goal.returns-in-Ok
returns-in-Ok c = let a = c.args in rw c.in-Some.is (counted_step a.place a.total c.in-Some.input.now _ _ c.in-Ok.ensures)

pub returns-in-Err : goal.returns-in-Err
returns-in-Err c =
    let a = c.args in
    rw c.in-Some.is (refused-step a.place a.total c.in-Some.input.now _ _ _ c.in-Err.r c.in-Err.ensures c.file_line-end-in-Err.ensures)
