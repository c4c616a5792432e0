-- The line of the frame asked about: a reason that names a check names one of the code's, and the line that is written of what was found is the frame's.
-- Assumes nothing.
use mathlib.Core.Path.{◌≡◌}
use mathlib.Core.List.{List, []}
use Prim.Native.Nat.{ℕ}
use lib.Ieee.{Float}
use Rattle.tanner.specs.Checks.{Word, counted}
use Rattle.rounds.specs.Rounds.{chosen}
use Rattle.batch.specs.Codes.{decode_of}
use Rattle.batch.specs.Pairs.{Pair}
use Rattle.batch.specs.Calls.{lent, batch}
use Rattle.batch_input.specs.Input.{code_of, rule_of, limit_of, scale_of}
use Rattle.batch_input.specs.Read.{HeaderOf}
use Rattle.batch_input.specs.declared.Header.{Header}
use Rattle.first_reason.specs.declared.Reason.{Reason}
use Rattle.numbered.specs.Codes.{checks_by}
use Rattle.reason.specs.Under.{reason_under}
use Rattle.first_reason.specs.Holds.{Holds, by_nan, by_check, by_checksum, is_clean}
use Rattle.reason.proofs.Under.{under-holds}
use Rattle.reason_lines.specs.Lines.{reason_line, Named}
use Rattle.why.specs.Why.{frame_line}

named_by : (code : ℕ) (values : List Float) (word : Word) {r : Reason} → Holds code values word r → Named (checks_by code) r
named_by code values word (by_nan p l) = tt
named_by code values word (by_check c all (counted d h n below)) = h
named_by code values word (by_checksum a b all s c p q n) = tt
named_by code values word (is_clean h) = tt

pub reason_named : (code rule : ℕ) (scale : Float) (values : List Float) (limit : ℕ) {r : Reason} → r ≡ reason_under code rule scale values limit
    → Named (checks_by code) r
reason_named code rule scale values limit e =
    rw e (named_by code values (chosen (decode_of code rule scale values) limit) (under-holds code rule scale values limit))

-- what was found of the values that a header's numbers decode is the line of the frame
pub frame-line : (s : List ℕ) (h : Header) → HeaderOf s h → (all : List Float) (pairs : List Pair) (part values : List Float) → part ≡ values
    → {word : Word} {r : Reason}
    → word ≡ chosen (decode_of h.code h.rule h.scale part) h.limit → r ≡ reason_under h.code h.rule h.scale part h.limit
    → reason_line (checks_by h.code) word r ≡ frame_line (batch (code_of s) (rule_of s) (limit_of s) (scale_of s) all pairs (lent [] [] [] [] [])) values
unfolding frame_line
frame-line s h head all pairs part values e w f = rw (w, f, e, head.code, head.rule, head.scale, head.limit)
