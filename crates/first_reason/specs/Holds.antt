-- What each reason says of a frame, and that no earlier one holds. (Change request N11: "Prove that the printed reason holds of that frame, that each
-- earlier one doesn't, and that `clean` appears only for a clean frame.")
use Rattle.std.specs.Prelude.{◌≡◌, true, false, List, ℕ, ◌<◌, Float, length, get_or, take}
use Rattle.std.specs.Float.Ieee.{is_nan}
use Rattle.std.specs.Float.{nan}
use Rattle.tanner.specs.Checks.{Word, check, none, parity, count, FirstIs}
use Rattle.numbered.specs.Codes.{size_k}
use Rattle.clean.specs.Clean.{payload_checksum, carried_checksum, frame_clean}
use Rattle.first_reason.specs.declared.Reason.{Reason}
use Rattle.first_reason.specs.declared.Reason.TheVariants as reason
use Rattle.numbered.specs.Codes.{checks_by}

-- "`nan` and the lowest such position within the frame"
pub record LowestNan (values : List Float) (p : ℕ) : Type 0 where
  pub inside : p < length values
  pub there : is_nan (get_or values p nan) ≡ true
  pub below : (j : ℕ) → j < p → is_nan (get_or values j nan) ≡ false

abbrev pub NoNan : List Float → Type 0
NoNan values = (j : ℕ) → j < length values → is_nan (get_or values j nan) ≡ false

-- "the lowest unsatisfied check's number"
abbrev pub LowestCheck : ℕ → Word → ℕ → Type 0
LowestCheck code word c = FirstIs (λ r. parity r word) (checks_by code) (check c)

abbrev pub AllSatisfied : ℕ → Word → Type 0
AllSatisfied code word = FirstIs (λ r. parity r word) (checks_by code) none

-- clean by change request N2: by its count, its values and, for code 3, the checksum of its message bits
abbrev pub IsClean : ℕ → List Float → Word → Type 0
IsClean code values word = frame_clean code values (count (checks_by code) word) (take (size_k code) word) ≡ true

-- a reason that holds of a frame of that code with these values and this word, no earlier one holding
pub data Holds (code : ℕ) (values : List Float) (word : Word) : Reason → Type 0 where
  by_nan : (p : ℕ) → LowestNan values p → Holds code values word (reason.Nan p)
  by_check : (c : ℕ) → NoNan values → LowestCheck code word c → Holds code values word (reason.Check c)
  by_checksum : (carried computed : ℕ) → NoNan values → AllSatisfied code word → code ≡ 3
      → carried ≡ carried_checksum (take (size_k code) word) → computed ≡ payload_checksum (take (size_k code) word) → (carried ≡ computed → ⊥)
      → Holds code values word (reason.Checksum carried computed)
  is_clean : IsClean code values word → Holds code values word reason.Clean
