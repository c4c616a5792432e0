-- The signed number of a call's answer goes through the conditions of its refusal. By induction over them. Assumes nothing.
use Rattle.std.proofs.Common.{◌≡◌, ℕ, Bool, true, false, cond, List, [], ◌∷◌, refl}
use Rattle.refusal.specs.Outcome.{Outcome, refused, Condition, judged}
use Rattle.coded.specs.Coded.{coded_by, coded}

module _ {A : Type 0} (f : A → ℕ) where
  one : (t : Bool) (n : ℕ) (x : Outcome A) (y : Outcome ℕ) → coded_by f x ≡ coded y → coded_by f (cond t (refused n) x) ≡ coded (cond t (refused n) y)
  one true n x y e = refl
  one false n x y e = e

  pub coded-judged : (cs : List Condition) (a : A) → coded_by f (judged cs a) ≡ coded (judged cs (f a))
  coded-judged [] a = refl
  coded-judged (c ∷ cs) a = one c.holds c.number (judged cs a) (judged cs (f a)) (coded-judged cs a)
