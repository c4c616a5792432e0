-- What an answer tells of the conditions that were tested: by cases on what they come to.
use mathlib.Core.Path.{◌≡◌, refl, ap, ◌∙◌}
use mathlib.Core.List.{List}
use Prim.Native.Nat.{ℕ}
use native.Mathlib.Omega.{arith}
use Rattle.refusal.specs.Outcome.{Outcome, accepted, refused, Condition, judged}
use Rattle.refusal.proofs.Judged.{verdict, nothing, judged_accepted, judged_refused}

module _ {A : Type 0} (xs : List Condition) (a : A) where
  -- a value: no condition held, and it is the value
  pub judged-given : (b : A) → accepted b ≡ judged xs a → (verdict xs ≡ nothing) × (b ≡ a)
  judged-given b e = by (verdict xs) refl
    where
      by : (o : Outcome Unit) → verdict xs ≡ o → (verdict xs ≡ nothing) × (b ≡ a)
      by (accepted u) v = let same = e ∙ judged_accepted xs a v in (v, cc)
      by (refused k) v = let other = e ∙ judged_refused xs a k v in let z : ◌≡◌ {A = ℕ} 0 1 = cc in absurd (omega arith)

  -- a number: the conditions come to it
  pub judged-turned : (k : ℕ) → refused k ≡ judged xs a → verdict xs ≡ refused k
  judged-turned k e = by (verdict xs) refl
    where
      by : (o : Outcome Unit) → verdict xs ≡ o → verdict xs ≡ refused k
      by (accepted u) v = let other = e ∙ judged_accepted xs a v in let z : ◌≡◌ {A = ℕ} 0 1 = cc in absurd (omega arith)
      by (refused n) v =
          let same = e ∙ judged_refused xs a n v in
          let q : n ≡ k = cc in
          v ∙ ap (λ (m : ℕ). refused m) q
