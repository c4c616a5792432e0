-- A call that writes its value, as C sees it, from the call beneath and the numbers that tell its answer. Assumes nothing.
use mathlib.Core.Path.{◌≡◌, subst, ◌∙◌}
use lib.IntN.{ℤ}
use Rattle.refusal.specs.Outcome.{Outcome}
use Rattle.coded_figures.specs.Figures.{Writes}

-- z is what was stored, and n what is read back of it
pub writes_told : {A : Type 0} {answer outcome : Outcome A} {z n : ℤ} {before after : A} → answer ≡ outcome → Writes answer z before after → n ≡ z
    → Writes outcome n before after
writes_told {A} {answer} {outcome} {z} {n} {before} {after} same w read =
    subst (λ (o : Outcome A). Writes o n before after) same (record { says = read ∙ w.says; leaves = w.leaves })
