-- Why a frame is open (change request N11): "the first that applies: `nan` and the lowest such position within the frame; `check`, the lowest unsatisfied
-- check's number, ..; `checksum`, the carried and the computed value, ..; otherwise `clean`."
use Rattle.std.specs.Prelude.{not, cond, ◌||◌, List, [], ◌∷◌, ℕ, suc, Option, Some, None, eqb, Float, take}
use Rattle.std.specs.Float.Ieee.{is_nan}
use Rattle.tanner.specs.Checks.{Word, First, check, none, first_unsatisfied}
use Rattle.numbered.specs.Codes.{size_k, checks_by}
use Rattle.clean.specs.Clean.{payload_checksum, carried_checksum, checksum_right}
use Rattle.first_reason.specs.declared.Reason.{Reason}
use Rattle.first_reason.specs.declared.Reason.TheVariants.{Nan, Check, Checksum, Clean}

-- the lowest position of a NaN; the first of the values is at position p
unfoldable pub first_nan : ℕ → List Float → Option ℕ
first_nan p [] = None
first_nan p (v ∷ vs) = let more = first_nan (suc p) vs in cond (is_nan v) (Some p) more

-- "`nan` and the lowest such position within the frame", or what else applies
abbrev pub nan_or : Option ℕ → Reason → Reason
nan_or (Some p) r = Nan p
nan_or None r = r

-- "`check`, the lowest unsatisfied check's number"
abbrev pub check_or : First → Reason → Reason
check_or (check c) r = Check c
check_or none r = r

-- "`checksum`, the carried and the computed value": where a frame of code 3 is open by its checksum alone (change request N2)
unfoldable pub checksum_or : ℕ → List ℕ → Reason → Reason
checksum_or code bits r = cond (not (eqb code 3) || checksum_right bits) r (Checksum (carried_checksum bits) (payload_checksum bits))

-- "the first that applies .. otherwise `clean`", of a frame of that code with these values and this word; "A word's message bits are its first K"
unfoldable pub reason_for : ℕ → List Float → Word → Reason
reason_for code values word =
    nan_or (first_nan 0 values) (check_or (first_unsatisfied (checks_by code) word) (checksum_or code (take (size_k code) word) Clean))
