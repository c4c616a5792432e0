-- What the program prints for an input (document 01, "The program").
use Rattle.std.specs.Prelude.{List, ◌++◌, ℕ, length}
use Rattle.refusal.specs.Outcome.{judged}
use Rattle.text.specs.Text.{printed}
use Rattle.batch.specs.Calls.{Lent, Batch, frames, written}
use Rattle.batch_input.specs.Handed.{batch_in, input_refusals}
use Rattle.one_line.specs.Line.{head_line}
use Rattle.lines.specs.Lines.{line_at, lines_from}

-- the head line, and a line for each frame
unfoldable pub frames_text : Batch → Lent → List ℕ
frames_text b l =
    head_line b.code b.rule b.limit (length b.pairs)
    ++ lines_from (line_at b.code (frames b) l) 0 (length b.pairs)

-- the lines of the batch that the input hands over, or "only one line, as `refused 13`, with the number that applies"
unfoldable pub listing_of : List ℕ → List ℕ
listing_of s = printed (judged (input_refusals s) (frames_text (batch_in s) (written (batch_in s))))
