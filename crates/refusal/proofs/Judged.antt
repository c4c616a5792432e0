-- Conditions tested in two runs, the second after the first found nothing. By induction over the first list. Assumes nothing.
use mathlib.Core.Path.{◌≡◌, refl, ap}
use mathlib.Core.Bool.{Bool, true, false, cond}
use mathlib.Core.List.{List, [], ◌∷◌, ◌++◌}
use Prim.Native.Nat.{ℕ}
use native.Mathlib.Omega.{arith}
use Rattle.refusal.specs.Outcome.{Outcome, accepted, refused, Condition, judged, kept}

-- what a run of conditions finds
abbrev pub verdict : List Condition → Outcome Unit
verdict xs = judged xs tt

abbrev pub nothing : Outcome Unit
nothing = accepted tt

-- a condition that is passed over holds not, and the rest is accepted
pub record Passed (t : Bool) (rest : Outcome Unit) : Type 0 where
  pub not-held : t ≡ false
  pub others : rest ≡ nothing

pub passed-by : (t : Bool) (n : ℕ) (rest : Outcome Unit) → cond t (refused n) rest ≡ nothing → Passed t rest
passed-by true n rest e = let z : ◌≡◌ {A = ℕ} 0 1 = cc in absurd (omega arith)
passed-by false n rest e = record { not-held = refl; others = e }

module _ {A : Type 0} where
  judged-past-by : (t : Bool) (n : ℕ) (rest : Outcome Unit) (x y : Outcome A) → cond t (refused n) rest ≡ nothing → (rest ≡ nothing → x ≡ y)
      → cond t (refused n) x ≡ y
  judged-past-by t n rest x y e f = let p = passed-by t n rest e in rw p.not-held (f p.others)

  pub judged_past : (xs ys : List Condition) (a : A) → verdict xs ≡ nothing → judged (xs ++ ys) a ≡ judged ys a
  judged_past [] ys a e = refl
  judged_past (c ∷ xs) ys a e = judged-past-by c.holds c.number (verdict xs) (judged (xs ++ ys) a) (judged ys a) e (judged_past xs ys a)

  kept-past-by : (t : Bool) (n : ℕ) (rest : Outcome Unit) (old x y : A) → cond t (refused n) rest ≡ nothing → (rest ≡ nothing → x ≡ y) → cond t old x ≡ y
  kept-past-by t n rest old x y e f = let p = passed-by t n rest e in rw p.not-held (f p.others)

  judged-front-by : (t : Bool) (n k : ℕ) (rest : Outcome Unit) (x : Outcome A) → cond t (refused n) rest ≡ refused k → (rest ≡ refused k → x ≡ refused k)
      → cond t (refused n) x ≡ refused k
  judged-front-by true n k rest x e f = let q : n ≡ k = cc in ap (λ (m : ℕ). refused m) q
  judged-front-by false n k rest x e f = f e

  pub judged-front : (xs ys : List Condition) (a : A) (k : ℕ) → verdict xs ≡ refused k → judged (xs ++ ys) a ≡ refused k
  judged-front [] ys a k e = let z : ◌≡◌ {A = ℕ} 0 1 = cc in absurd (omega arith)
  judged-front (c ∷ xs) ys a k e = judged-front-by c.holds c.number k (verdict xs) (judged (xs ++ ys) a) e (judged-front xs ys a k)

  kept-front-by : (t : Bool) (n k : ℕ) (rest : Outcome Unit) (old x : A) → cond t (refused n) rest ≡ refused k → (rest ≡ refused k → x ≡ old)
      → cond t old x ≡ old
  kept-front-by true n k rest old x e f = refl
  kept-front-by false n k rest old x e f = f e

-- of one run
pub judged_accepted : {A : Type 0} (xs : List Condition) (a : A) → verdict xs ≡ nothing → judged xs a ≡ accepted a
judged_accepted [] a e = refl
judged_accepted (c ∷ xs) a e = judged-past-by c.holds c.number (verdict xs) (judged xs a) (accepted a) e (judged_accepted xs a)

pub judged_refused : {A : Type 0} (xs : List Condition) (a : A) (k : ℕ) → verdict xs ≡ refused k → judged xs a ≡ refused k
judged_refused [] a k e = let z : ◌≡◌ {A = ℕ} 0 1 = cc in absurd (omega arith)
judged_refused (c ∷ xs) a k e = judged-front-by c.holds c.number k (verdict xs) (judged xs a) e (judged_refused xs a k)

pub kept_accepted : {A : Type 0} (xs : List Condition) (old new : A) → verdict xs ≡ nothing → kept xs old new ≡ new
kept_accepted [] old new e = refl
kept_accepted (c ∷ xs) old new e =
    kept-past-by c.holds c.number (verdict xs) old (kept xs old new) new e (kept_accepted xs old new)

pub kept_refused : {A : Type 0} (xs : List Condition) (old new : A) (k : ℕ) → verdict xs ≡ refused k → kept xs old new ≡ old
kept_refused [] old new k e = let z : ◌≡◌ {A = ℕ} 0 1 = cc in absurd (omega arith)
kept_refused (c ∷ xs) old new k e = kept-front-by c.holds c.number k (verdict xs) old (kept xs old new) e (kept_refused xs old new k)

-- where both runs are accepted, each is
pub accepted_front : (xs ys : List Condition) → verdict (xs ++ ys) ≡ nothing → verdict xs ≡ nothing
accepted_front [] ys e = refl
accepted_front (c ∷ xs) ys e =
    let p = passed-by c.holds c.number (verdict (xs ++ ys)) e in
    rw p.not-held (accepted_front xs ys p.others)

pub accepted_rest : (xs ys : List Condition) → verdict (xs ++ ys) ≡ nothing → verdict ys ≡ nothing
accepted_rest [] ys e = e
accepted_rest (c ∷ xs) ys e = accepted_rest xs ys (passed-by c.holds c.number (verdict (xs ++ ys)) e).others
