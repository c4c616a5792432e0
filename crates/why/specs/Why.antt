-- What the program prints for an input (change request N11): "reads a frame's place (u16, little-endian) and then a batch as the listing program takes it".
use Rattle.std.specs.Prelude.{not, List, [], ◌∷◌, ◌++◌, ℕ, ltb, Float, length, get_or, drop}
use Rattle.refusal.specs.Outcome.{Condition, ◌when◌, judged}
use Rattle.text.specs.Text.{printed}
use Rattle.rounds.specs.Rounds.{chosen}
use Rattle.batch.specs.Calls.{Batch, refusals, frames, frame_decode}
use Rattle.batch_input.specs.Input.{u16_at, pair_count}
use Rattle.batch_input.specs.Handed.{batch_in, input_refusals}
use Rattle.numbered.specs.Codes.{checks_by}
use Rattle.reason.specs.Under.{reason_under}
use Rattle.reason_lines.specs.Lines.{reason_line}

-- ---- the input

abbrev pub place_of : List ℕ → ℕ
place_of s = u16_at s 0

-- the batch's bytes: "The batch alone is at most 65,536 bytes", which `malformed` tests
abbrev pub batch_of : List ℕ → List ℕ
batch_of s = drop 2 s

-- ---- refusals

-- "19 when the place is not below the number of pairs", which is so many
abbrev pub place_refusal : ℕ → ℕ → List Condition
place_refusal place pairs = (19 when not (ltb place pairs)) ∷ []

-- "a cut place gets 13"; "All other batch refusals come first", 13 before all; then 19
abbrev pub why_refusals : List ℕ → List Condition
why_refusals s = (13 when ltb (length s) 2) ∷ (input_refusals (batch_of s) ++ place_refusal (place_of s) (pair_count (batch_of s)))

-- of a place and a batch that is not malformed
abbrev pub asked_refusals : ℕ → List ℕ → List Condition
asked_refusals place s = refusals (batch_in s) ++ place_refusal place (pair_count s)

-- ---- what is printed

-- the line of the frame at a place: of its values, and of the word that its decode chooses
unfoldable pub frame_line : Batch → List Float → List ℕ
frame_line b values =
    reason_line (checks_by b.code) (chosen (frame_decode b values) b.limit) (reason_under b.code b.rule b.scale values b.limit)

-- the values of the frame asked about
abbrev pub frame_at : Batch → ℕ → List Float
frame_at b place = get_or (frames b) place []

-- "It prints one line"; a refusal's line is the listing's, "as `refused N`"
unfoldable pub why_of : List ℕ → List ℕ
why_of s = let b = batch_in (batch_of s) in printed (judged (why_refusals s) (frame_line b (frame_at b (place_of s))))

-- the same of a place and a batch that is not malformed
unfoldable pub asked_line : ℕ → List ℕ → List ℕ
asked_line place s = let b = batch_in s in printed (judged (asked_refusals place s) (frame_line b (frame_at b place)))
