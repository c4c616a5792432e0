-- An answer as numbers of C. The answer itself is one signed number: a value or a count as it is, and a refusal as minus its number in document 01's
-- table; the two cannot be mistaken for each other, since a value is never below 0 and a refusal's number is at least 1. What more a call tells goes
-- through a reference that is lent for it, and a refused call leaves that as it was.
use Rattle.std.specs.Prelude.{Bool, cond, ℕ, ℤ, pos, neg_ℤ}
use Rattle.refusal.specs.Outcome.{Outcome, accepted, refused}

-- the signed number, of an accepted call the part `of` its value
abbrev pub coded_by : {A : Type 0} → (A → ℕ) → Outcome A → ℤ
coded_by of (accepted v) = pos (of v)
coded_by of (refused n) = neg_ℤ (pos n)

abbrev pub coded : Outcome ℕ → ℤ
coded = coded_by (λ v. v)

-- a word, yes or no: 1 or 0
abbrev pub flag : Bool → ℕ
flag b = cond b 1 0

-- an accepted call that has no value beside what it writes answers 0
abbrev pub coded_unit : Outcome Unit → ℤ
coded_unit = coded_by (λ _. 0)

-- a number lent for a part of the value: what it held before the call, and after it
pub record Lent : Type 0 where
  pub before : ℕ
  pub after : ℕ

abbrev pub lent : ℕ → ℕ → Lent
lent before after = record { before = before; after = after }

abbrev pub told_in : {A : Type 0} → (A → ℕ) → Outcome A → ℕ → ℕ
told_in of (accepted v) before = of v
told_in of (refused n) before = before
