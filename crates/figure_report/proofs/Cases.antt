-- A report known beforehand, computed: eleven bytes, and a file that cannot be read, are named by their places from 1; then there are no frames.
use mathlib.Core.Path.{◌≡◌, refl}
use mathlib.Core.List.{[], ◌∷◌}
use lib.ListN.{replicate}
use Rattle.text.specs.Text.{leading, decimal, field, refusal_line}
use Rattle.digits.specs.Digits.{digits_from, digits}
use Rattle.batch_input.specs.Input.{malformed}
use Rattle.figure_lines.specs.Lines.{totals_line, refused_line, unreadable_line}
use Rattle.input_figures.specs.Added.{input_added}
use Rattle.figure_report.specs.Report.{bytes, unread, total_after, line_for, report_from, report}

two_files : report (bytes (replicate 11 0) ∷ unread ∷ []) ≡
    49 ∷ 32 ∷ 114 ∷ 101 ∷ 102 ∷ 117 ∷ 115 ∷ 101 ∷ 100 ∷ 32 ∷ 49 ∷ 51 ∷ 10 ∷ 50 ∷ 32 ∷ 117 ∷ 110 ∷ 114 ∷ 101 ∷ 97 ∷ 100 ∷ 97 ∷ 98 ∷ 108 ∷ 101 ∷ 10 ∷ 114 ∷
    101 ∷ 102 ∷ 117 ∷ 115 ∷ 101 ∷ 100 ∷ 32 ∷ 49 ∷ 53 ∷ 10 ∷ []
unfolding report_from total_after line_for input_added malformed refused_line unreadable_line totals_line digits digits_from leading refusal_line field decimal
two_files = refl
