-- What `batchfigures` prints for its files (change request N5): a line for each file that is not counted, and then the line of the total.
use denote.Ref.{Bor}
use Rattle.std.specs.Prelude.{◌≡◌, Option, Some, None, List, [], ◌∷◌, ◌++◌, ℕ, suc, ◌≤◌}
use Rattle.refusal.specs.Outcome.{Outcome, accepted, refused}
use Rattle.text.specs.Written.{Written}
use Rattle.figures.specs.Totals.{Frame, totals_of, nothing_yet}
use Rattle.figures.specs.declared.Totals.{Totals}
use Rattle.figure_lines.specs.Lines.{totals_line, refused_line, unreadable_line}
use Rattle.batch_figures.specs.Results.{batch_frames}
use Rattle.input_figures.specs.Added.{input_results, input_added}
use Rattle.figure_report.specs.declared.Step.{Step}

-- ---- a file

-- what was read of it: its bytes, or that it cannot be read
pub data File : Type 0 where
  bytes : List ℕ → File
  unread : File

abbrev pub file_of : Option (Bor (List ℕ)) → File
file_of (Some s) = bytes s.now
file_of None = unread

-- a file whose batch is added changes the total; one that is refused "is not counted", and leaves it "as before"
abbrev pub total_or : Totals → Outcome Totals → Totals
total_or t (accepted u) = u
total_or t (refused k) = t

unfoldable pub total_after : Totals → File → Totals
total_after t (bytes s) = total_or t (input_added t s)
total_after t unread = t

-- "a line of its own with its place among the arguments and the reason"; a file that is counted has none
abbrev pub line_or : ℕ → Outcome Totals → List ℕ
line_or place (accepted u) = []
line_or place (refused k) = refused_line place k

unfoldable pub line_for : ℕ → Totals → File → List ℕ
line_for place t (bytes s) = line_or place (input_added t s)
line_for place t unread = unreadable_line place

-- one file more: the total after it, and its line at the front of a buffer, `end` bytes long
pub record Stepped (place : ℕ) (t : Totals) (f : File) (before after : List ℕ) (s : Step) : Type 0 where
  pub its_total : s.total ≡ total_after t f
  pub its_line : Written before 0 (line_for place t f) after s.end
  pub short : s.end ≤ 35

-- ---- all files

unfoldable pub report_from : ℕ → Totals → List File → List ℕ
report_from place t [] = totals_line t
report_from place t (f ∷ fs) = line_for place t f ++ report_from (suc place) (total_after t f) fs

-- places are counted from 1, as a shell counts arguments, and nothing is counted before the first
abbrev pub report : List File → List ℕ
report fs = report_from 1 nothing_yet fs

-- ---- which frames are counted

-- those of each file whose batch is added, in the files' order
abbrev pub frames_or : List Frame → Outcome Totals → List Frame
frames_or fs (accepted u) = fs
frames_or fs (refused k) = []

unfoldable pub frames_of : Totals → File → List Frame
frames_of t (bytes s) = frames_or (batch_frames (input_results s)) (input_added t s)
frames_of t unread = []

unfoldable pub frames_counted : Totals → List File → List Frame
frames_counted t [] = []
frames_counted t (f ∷ fs) = frames_of t f ++ frames_counted (total_after t f) fs

-- the lines of the files that are not counted
unfoldable pub lines_from : ℕ → Totals → List File → List ℕ
lines_from place t [] = []
lines_from place t (f ∷ fs) = line_for place t f ++ lines_from (suc place) (total_after t f) fs

-- a report is these lines, and then the line of the totals of all frames counted
abbrev pub Reports : List File → Type 0
Reports fs = report fs ≡ lines_from 1 nothing_yet fs ++ totals_line (totals_of (frames_counted nothing_yet fs))
