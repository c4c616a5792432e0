-- The laws of the first check that a count includes, for any check list: it is the first, none exactly where the count is 0, and what each mask finds.
-- By induction over the checks. Assumes nothing.
use mathlib.Core.Path.{◌≡◌, refl, sym, ap, ap₂, ◌∙◌}
use mathlib.Core.Bool.{Bool, true, false, cond}
use mathlib.Core.List.{List, [], ◌∷◌}
use Prim.Native.Nat.{ℕ, zero, suc, ◌+◌, ◌<◌}
use native.Mathlib.Nat.{add-zero}
use native.Mathlib.Omega.{arith}
use borrow.Author.Tests.{eqb-true, eqb-false}
use lib.Dec.{eqb}
use lib.ListN.{length, get_or, take}
use Rattle.tanner.specs.Checks.{Word, Checks, First, check, none, Syndrome, parity, count, low_bits}
use Rattle.tanner.specs.Checks.{xor_from, nonzero, count_bytes, first_by, first_unsatisfied, FirstIs, counted, satisfied, syndrome, syndrome_of_bytes}
use Rattle.tanner.specs.Masked.{measured, count_masked, syndrome_masked}
use Rattle.lists.specs.Below.{Below}
use Rattle.tanner.proofs.Count.{AllBelow, none as no_more, more, low-check, low_count, byte_check, byte_count, parity-front, count-front}

-- ---- two measures that agree find the same check

data Alike (f g : List ℕ → ℕ) : Checks → Type 0 where
  end : Alike f g []
  and : {r : List ℕ} {rs : Checks} → f r ≡ g r → Alike f g rs → Alike f g (r ∷ rs)

first_alike : (f g : List ℕ → ℕ) (c : ℕ) {rs : Checks} → Alike f g rs → first_by f c rs ≡ first_by g c rs
unfolding first_by
first_alike f g c end = refl
first_alike f g c (and {r = r} {rs = rs} e a) = rw (e, first_alike f g (suc c) a)

everywhere : (f g : List ℕ → ℕ) → ((r : List ℕ) → f r ≡ g r) → (rs : Checks) → Alike f g rs
everywhere f g e [] = end
everywhere f g e (r ∷ rs) = and (e r) (everywhere f g e rs)

abbrev pub both : ℕ → First → Syndrome
both n f = record { count = n; first = f }

pub low-syndrome : (cs : Checks) (bytes : List ℕ) → syndrome_masked 1 cs bytes ≡ syndrome cs (low_bits bytes)
low-syndrome cs bytes = ap₂ both (low_count cs bytes) (first_alike _ _ 0 (everywhere _ _ (λ r. low-check r bytes) cs))

pub byte_syndrome : (cs : Checks) (bytes : List ℕ) → Below 256 bytes → syndrome_masked 255 cs bytes ≡ syndrome_of_bytes cs bytes
byte_syndrome cs bytes l = ap₂ both (byte_count cs bytes l) (first_alike _ _ 0 (everywhere _ _ (λ r. byte_check r bytes l) cs))

front_alike : (n : ℕ) {cs : Checks} (w : Word) → AllBelow n cs → Alike (λ r. parity r (take n w)) (λ r. parity r w) cs
front_alike n w no_more = end
front_alike n w (more {c = c} l ls) = and (parity-front n c w l) (front_alike n w ls)

pub front-syndrome : (n : ℕ) {cs : Checks} (w : Word) → AllBelow n cs → syndrome cs (take n w) ≡ syndrome cs w
front-syndrome n w l = ap₂ both (count-front n w l) (first_alike _ _ 0 (front_alike n w l))

-- ---- it is the first

-- the laws at check 0 of a longer list, and one check further
first_shift : (measure : List ℕ → ℕ) (r : List ℕ) (rs : Checks) (c : ℕ) → measure r ≡ 0
    → ((j : ℕ) → j < c → measure (get_or rs j []) ≡ 0) → (j : ℕ) → j < suc c → measure (get_or (r ∷ rs) j []) ≡ 0
first_shift measure r rs c z below zero h = z
first_shift measure r rs c z below (suc j) h = below j (omega arith)

abbrev moved : ℕ → First → First
moved k none = none
moved k (check c) = check (k + c)

moved_twice : (k : ℕ) (f : First) → moved (suc k) f ≡ moved k (moved 1 f)
moved_twice k none = refl
moved_twice k (check c) = let e : suc k + c ≡ k + (1 + c) = omega arith in ap check e

moved_by : (k : ℕ) (t : Bool) (f g : First) → f ≡ moved k g → cond t f (check k) ≡ moved k (cond t g (check 0))
moved_by k true f g e = e
moved_by k false f g e = rw add-zero

first_moved : (measure : List ℕ → ℕ) (k : ℕ) (rs : Checks) → first_by measure k rs ≡ moved k (first_by measure 0 rs)
unfolding first_by
first_moved measure k [] = refl
first_moved measure k (r ∷ rs) =
    let f = first_by measure 0 rs in
    let further : first_by measure (suc k) rs ≡ moved k (first_by measure 1 rs) =
    first_moved measure (suc k) rs ∙ moved_twice k f ∙ ap (moved k) (sym (first_moved measure 1 rs))
    in
    moved_by k (eqb (measure r) 0) (first_by measure (suc k) rs) (first_by measure 1 rs) further

module _ (measure : List ℕ → ℕ) where
  one_more : (r : List ℕ) (rs : Checks) → measure r ≡ 0 → (f : First) → FirstIs measure rs f → FirstIs measure (r ∷ rs) (moved 1 f)
  one_more r rs z _ (counted c h n below) =
      let e : 1 + c ≡ suc c = omega arith in
      rw e (counted (suc c) (omega arith) n (first_shift measure r rs c z below))
  one_more r rs z _ (satisfied all) = satisfied (first_shift measure r rs (length rs) z all)

  first_by_lem : (r : List ℕ) (rs : Checks) (t : Bool) → eqb (measure r) 0 ≡ t → FirstIs measure rs (first_by measure 0 rs)
      → FirstIs measure (r ∷ rs) (cond t (first_by measure 1 rs) (check 0))
  first_by_lem r rs true e f = rw (first_moved measure 1 rs) (one_more r rs (eqb-true (measure r) 0 e) (first_by measure 0 rs) f)
  first_by_lem r rs false e f = counted 0 (omega arith) (eqb-false (measure r) 0 e) (λ j h. absurd (omega arith))

  pub first-is : (rs : Checks) → FirstIs measure rs (first_by measure 0 rs)
  unfolding first_by
  first-is [] = satisfied (λ j h. absurd (omega arith))
  first-is (r ∷ rs) = first_by_lem r rs (eqb (measure r) 0) refl (first-is rs)

-- ---- none exactly where the count is 0, by a count that adds the measure of each check

abbrev Adds : (List ℕ → ℕ) → (Checks → ℕ) → Type 0
Adds measure total = (total [] ≡ 0) × ((r : List ℕ) (rs : Checks) → total (r ∷ rs) ≡ measure r + total rs)

module _ (measure : List ℕ → ℕ) (total : Checks → ℕ) (adds : Adds measure total) where
  zero-by : (c : ℕ) (r : List ℕ) (rs : Checks) (t : Bool) → eqb (measure r) 0 ≡ t → (first_by measure (suc c) rs ≡ none → total rs ≡ 0)
      → cond t (first_by measure (suc c) rs) (check c) ≡ none → total (r ∷ rs) ≡ 0
  zero-by c r rs true e ih f = omega (arith, adds.1 r rs, eqb-true (measure r) 0 e, ih f)
  zero-by c r rs false e ih f = let z : ◌≡◌ {A = ℕ} 0 1 = cc in absurd (omega arith)

  pub none-zero : (c : ℕ) (rs : Checks) → first_by measure c rs ≡ none → total rs ≡ 0
  unfolding first_by
  none-zero c [] f = adds.0
  none-zero c (r ∷ rs) f = zero-by c r rs (eqb (measure r) 0) refl (none-zero (suc c) rs) f

  pub zero-none : (c : ℕ) (rs : Checks) → total rs ≡ 0 → first_by measure c rs ≡ none
  unfolding first_by
  zero-none c [] z = refl
  zero-none c (r ∷ rs) z =
      let own : measure r ≡ 0 = omega (arith, adds.1 r rs) in
      rw own (zero-none (suc c) rs (omega (arith, adds.1 r rs)))

count_adds : (w : Word) → Adds (λ r. parity r w) (λ cs. count cs w)
unfolding count
count_adds w = (refl, λ r rs. refl)

bytes-add : (bytes : List ℕ) → Adds (λ r. nonzero (xor_from 0 r bytes)) (λ cs. count_bytes cs bytes)
unfolding count_bytes
bytes-add bytes = (refl, λ r rs. refl)

pub masked_adds : (mask : ℕ) (bytes : List ℕ) → Adds (measured mask bytes) (λ cs. count_masked mask cs bytes)
unfolding count_masked
masked_adds mask bytes = (refl, λ r rs. refl)

-- "or none when it is 0"
pub none-count : (cs : Checks) (w : Word) → first_unsatisfied cs w ≡ none → count cs w ≡ 0
none-count cs w = none-zero _ _ (count_adds w) 0 cs

pub count_none : (cs : Checks) (w : Word) → count cs w ≡ 0 → first_unsatisfied cs w ≡ none
count_none cs w = zero-none _ _ (count_adds w) 0 cs

pub none-bytes : (cs : Checks) (bytes : List ℕ) → (syndrome_of_bytes cs bytes).first ≡ none → count_bytes cs bytes ≡ 0
none-bytes cs bytes = none-zero _ _ (bytes-add bytes) 0 cs

pub bytes-none : (cs : Checks) (bytes : List ℕ) → count_bytes cs bytes ≡ 0 → (syndrome_of_bytes cs bytes).first ≡ none
bytes-none cs bytes = zero-none _ _ (bytes-add bytes) 0 cs
