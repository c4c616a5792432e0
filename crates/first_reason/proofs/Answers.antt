-- What `reason_of` answers is the definition's reason, where the check that it is given is the word's first unsatisfied one. Assumes nothing.
use Rattle.std.proofs.Common.{Option}
use mathlib.Core.Path.{◌≡◌}
use mathlib.Core.List.{List}
use Prim.Native.Nat.{ℕ}
use lib.Ieee.{Float}
use lib.ListN.{take}
use Rattle.tanner.specs.Checks.{Word, first_unsatisfied}
use Rattle.tanner.specs.Found.{first_of}
use Rattle.numbered.specs.Codes.{size_k}
use Rattle.first_reason.specs.declared.Reason.TheVariants.{Clean}
use Rattle.numbered.specs.Codes.{checks_by}
use Rattle.first_reason.specs.Reasons.{first_nan, nan_or, check_or, checksum_or, reason_for}

pub reason-met : (code : ℕ) (first : Option ℕ) (values : List Float) (word : Word) → first_of first ≡ first_unsatisfied (checks_by code) word
    → nan_or (first_nan 0 values) (check_or (first_of first) (checksum_or code (take (size_k code) word) Clean)) ≡ reason_for code values word
unfolding reason_for
reason-met code first values word e = rw e
