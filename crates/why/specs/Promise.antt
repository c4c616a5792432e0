-- What change request N11 promises of the line that is printed: "that the printed reason holds of that frame, that each earlier one doesn't, and that
-- `clean` appears only for a clean frame".
use Rattle.std.specs.Prelude.{◌≡◌, Bool, true, List, ℕ, Float}
use Rattle.refusal.specs.Outcome.{accepted, judged}
use Rattle.tanner.specs.Checks.{Word}
use Rattle.rounds.specs.Rounds.{chosen}
use Rattle.batch.specs.Calls.{Batch, frame_decode}
use Rattle.clean_frames.specs.Limits.{clean_under}
use Rattle.batch_input.specs.Handed.{batch_in}
use Rattle.first_reason.specs.declared.Reason.{Reason}
use Rattle.numbered.specs.Codes.{checks_by}
use Rattle.first_reason.specs.Holds.{Holds}
use Rattle.reason_lines.specs.Lines.{reason_line, clean_line}
use Rattle.why.specs.Why.{place_of, batch_of, why_refusals, frame_at, why_of}

-- an input that is not refused
abbrev pub Accepted : List ℕ → Type 0
Accepted s = judged {A = Unit} (why_refusals s) tt ≡ accepted tt

-- its batch, the values of the frame asked about, and the word that its decode chooses
abbrev pub batch_asked : List ℕ → Batch
batch_asked s = batch_in (batch_of s)

abbrev pub values_asked : List ℕ → List Float
values_asked s = frame_at (batch_asked s) (place_of s)

abbrev pub word_asked : List ℕ → Word
word_asked s = chosen (frame_decode (batch_asked s) (values_asked s)) (batch_asked s).limit

-- whether that frame is clean (change request N2)
abbrev pub clean_asked : List ℕ → Bool
clean_asked s = let b = batch_asked s in clean_under b.code b.rule b.scale (values_asked s) b.limit

-- the line that is printed is that of a reason that holds, no earlier one holding
pub record Explains (s : List ℕ) : Type 0 where
  pub reason : Reason
  pub line : why_of s ≡ reason_line (checks_by (batch_asked s).code) (word_asked s) reason
  pub holds : Holds (batch_asked s).code (values_asked s) (word_asked s) reason

-- `clean` is printed exactly where an accepted input asks about a clean frame
pub record CleanPrinted (s : List ℕ) : Type 0 where
  pub only : why_of s ≡ clean_line → Accepted s × (clean_asked s ≡ true)
  pub each : Accepted s → clean_asked s ≡ true → why_of s ≡ clean_line
