-- A round of a code by number as the code runs it: the messages lie by slots in the work area.
use Rattle.std.specs.Prelude.{◌≡◌, List, [], ℕ, ◌*◌, ◌<◌, ◌≤◌, Float, length, get_or, take}
use Rattle.softmath.specs.declared.DecodeRule.{DecodeRule}
use Rattle.tanner.specs.Checks.{Checks, Word, count}
use Rattle.tanner.specs.Flat.{joined}
use Rattle.slots.specs.Columns.{column}
use Rattle.slots.specs.Layout.{row}
use Rattle.passes.specs.Codes.{checks_by, kind_by, size_m, degree}
use Rattle.one_round.specs.Round.{Decode, by_check, answers, decided, sent}

-- the decode of a frame at the code with that number
abbrev pub decode_at : ℕ → DecodeRule → List Float → Decode
decode_at code rule llr = record { checks = checks_by code; rule = rule; kind = kind_by code; llr = llr }

-- the work area w holds the messages ms: the first entries of check c's column, as many as it has positions, are its messages
pub record Holds (cs : Checks) (m d : ℕ) (w ms : List Float) : Type 0 where
  pub room : d * m ≤ length w
  pub size : length ms ≡ length (joined cs)
  pub entries : (c : ℕ) → c < length cs → take (length (row cs c)) (column m d c w) ≡ get_or (by_check cs ms) c []

-- at the code with that number
abbrev pub HeldBy : ℕ → List Float → List Float → Type 0
HeldBy code w ms = Holds (checks_by code) (size_m code) (degree code) w ms

-- after a round on the messages ms: the work area holds the new messages; the word decided and its count
pub record RoundDone (dec : Decode) (m d : ℕ) (ms next : List Float) (word : Word) (found : ℕ) : Type 0 where
  pub messages : Holds dec.checks m d next (sent dec (answers dec ms))
  pub decision : word ≡ decided dec (answers dec ms)
  pub counted : found ≡ count dec.checks word

abbrev pub RoundBy : ℕ → DecodeRule → List Float → List Float → List Float → Word → ℕ → Type 0
RoundBy code rule llr ms next word found = RoundDone (decode_at code rule llr) (size_m code) (degree code) ms next word found
