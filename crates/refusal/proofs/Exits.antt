-- What a call answers at the exit of a `?`: the refusal that the call within it answered. By the library's lemma on that exit. Assumes nothing.
use Rattle.std.proofs.Common.{◌≡◌, Result, ap, ◌∙◌}
use Rattle.std.proofs.lemmas.Result.{err_from_is_err_and}
use Rattle.std.specs.Result.{IsErrAnd}
use Rattle.refusal.specs.Outcome.{Outcome, refused}
use Rattle.refusal.specs.Numbers.{number_of}
use Rattle.refusal.specs.Answers.{outcome_of, outcome_by}
use Rattle.refusal.specs.declared.Refusal.{Refusal}

module _ {A : Type 0} (r : Result A Refusal) (e : Refusal) (h : IsErrAnd r (λ y. y ≡ e)) where
  pub exit : outcome_of r ≡ refused (number_of e)
  exit = let p = err_from_is_err_and r h in rw (p.1, p.2)

  pub exit-by : {B : Type 0} (f : A → B) → outcome_by f r ≡ refused (number_of e)
  exit-by f = let p = err_from_is_err_and r h in rw (p.1, p.2)
