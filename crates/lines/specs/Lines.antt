-- The lines of a batch's frames (document 01, "The program"). A text is the list of its ASCII codes.
use Rattle.std.specs.Prelude.{List, [], ◌++◌, ℕ, zero, suc, Float, get_or}
use Rattle.one_line.specs.Line.{frame_line}
use Rattle.batch.specs.Calls.{Lent}
use Rattle.clean_frames.specs.CleanFrames.{bits_of, clean_of}

-- the line of the frame at place j, of the frames' values and of what the batch wrote
abbrev pub line_at : ℕ → List (List Float) → Lent → ℕ → List ℕ
line_at code frames l j =
    frame_line j (get_or l.counts j 0) (get_or l.rounds j 0) (clean_of code frames l.counts l.bits j) (bits_of code l.bits j) (get_or l.firsts j 0)

-- n lines, the first that of place j
unfoldable pub lines_from : (ℕ → List ℕ) → ℕ → ℕ → List ℕ
lines_from line j zero = []
lines_from line j (suc n) = line j ++ lines_from line (suc j) n
