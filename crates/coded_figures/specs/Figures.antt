-- Reception figures as C sees them: a total is four numbers and a fraction two, each lent by itself; a refused call leaves them as they were.
use Rattle.std.specs.Prelude.{◌≡◌, ℕ, ℤ}
use Rattle.refusal.specs.Outcome.{Outcome, accepted, refused}
use Rattle.figures.specs.Fraction.{Fraction}
use Rattle.figures.specs.declared.Totals.{Totals}
use Rattle.coded.specs.Coded.{coded_by}

abbrev pub totals : ℕ → ℕ → ℕ → ℕ → Totals
totals frames clean counts rounds = record { frames = frames; clean = clean; counts = counts; rounds = rounds }

abbrev pub fraction : ℕ → ℕ → Fraction
fraction over under = record { over = over; under = under }

-- the value of an accepted call, and what was there before where it is refused
abbrev pub value_or : {A : Type 0} → A → Outcome A → A
value_or before (accepted v) = v
value_or before (refused n) = before

-- a call that answers 0 or minus a refusal's number, and writes its value
pub record Writes {A : Type 0} (outcome : Outcome A) (n : ℤ) (before after : A) : Type 0 where
  pub says : n ≡ coded_by (λ _. 0) outcome
  pub leaves : after ≡ value_or before outcome
