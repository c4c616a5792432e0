-- The sizes of groups: what they are together is what is left of them, with the frames that are left. Assumes nothing.
use mathlib.Core.Path.{◌≡◌, refl, sym, ap, ◌∙◌}
use mathlib.Core.Bool.{Bool, true, false, not, cond, ◌||◌, or-true}
use mathlib.Core.List.{List, [], ◌∷◌}
use mathlib.Mathlib.Data.Bool.Basic.{or-eq-false-eq-eq-false-and-eq-false as or-is-false}
use Prim.Native.Nat.{ℕ, zero, suc, ◌+◌, ◌-◌, ◌<◌, ◌≤◌}
use native.Mathlib.Nat.{pos_of_ne-zero}
use native.Mathlib.Numerals.{add-one}
use native.Mathlib.Omega.{arith}
use borrow.Author.Tests.{eq-eqb, ne_eqb, eqb-true, eqb-false, not-false}
use lib.Dec.{eqb}
use lib.ListN.{length, get_or, take, drop, drop_of_length-le}
use lib.Seq.{drop-cons}
use Rattle.refusal.specs.Outcome.{refused}
use Rattle.refusal.proofs.Judged.{verdict, nothing, passed-by}
use Rattle.grouping.specs.Grouping.{some_zero, total, size_refusals}

-- the sizes are none of groups that take so many frames
abbrev pub wrong : List ℕ → ℕ → Bool
wrong ns left = some_zero ns || not (eqb (total ns) left)

wrong_zero : (ns : List ℕ) (left n : ℕ) → n ≡ 0 → wrong (n ∷ ns) left ≡ true
unfolding some_zero total
wrong_zero ns left n e = simp (eq-eqb n 0 e)

wrong_past : (ns : List ℕ) (left n : ℕ) → left < n → wrong (n ∷ ns) left ≡ true
unfolding some_zero total
wrong_past ns left n h = simp (ne_eqb (n + total ns) left (λ e. omega arith)) (or-true (eqb n 0 || some_zero ns))

same-eqb : (a b c d : ℕ) → (a ≡ b → c ≡ d) → (c ≡ d → a ≡ b) → eqb a b ≡ eqb c d
same-eqb a b c d f g = by (eqb a b) refl
  where
    by : (t : Bool) → eqb a b ≡ t → t ≡ eqb c d
    by true e = sym (eq-eqb c d (f (eqb-true a b e)))
    by false e = sym (ne_eqb c d (λ q. eqb-false a b e (g q)))

wrong_next : (ns : List ℕ) (left n : ℕ) → (n ≡ 0 → ⊥) → n ≤ left → wrong (n ∷ ns) left ≡ wrong ns (left - n)
unfolding some_zero total
wrong_next ns left n z h =
    simp (ne_eqb n 0 z, same-eqb (n + total ns) left (total ns) (left - n) (λ e. omega arith) (λ e. omega arith))

wrong_left : (left : ℕ) → 0 < left → wrong [] left ≡ true
unfolding some_zero total
wrong_left left h = simp (ne_eqb 0 left (λ e. omega arith))

right-none : (left : ℕ) → left ≤ 0 → wrong [] left ≡ false
unfolding some_zero total
right-none left h = let z : 0 ≡ left = omega arith in simp (eq-eqb 0 left z)

-- ---- the sizes from place i on, with the frames that are left for them

judged_wrong : (sizes : List ℕ) (frames : ℕ) (t : Bool) → 0 < length sizes → wrong sizes frames ≡ t
    → verdict (size_refusals frames sizes) ≡ cond t (refused 20) nothing
judged_wrong [] frames t h e = absurd (omega arith)
judged_wrong (n ∷ ns) frames t h e = rw e

pub no_list : (sizes : List ℕ) (frames : ℕ) → length sizes ≡ 0 → verdict (size_refusals frames sizes) ≡ nothing
no_list [] frames h = refl
no_list (n ∷ ns) frames h = absurd (omega arith)

module _ (sizes : List ℕ) (frames i left : ℕ) (rest : wrong sizes frames ≡ wrong (drop i sizes) left) where
  abbrev n : ℕ
  n = get_or sizes i 0

  begins : i < length sizes → wrong sizes frames ≡ wrong (n ∷ drop (suc i) sizes) left
  begins h = rest ∙ ap (λ (l : List ℕ). wrong l left) (drop-cons sizes i 0 h)

  pub refused_zero : i < length sizes → n ≡ 0 → verdict (size_refusals frames sizes) ≡ refused 20
  refused_zero h e = judged_wrong sizes frames true (omega arith) (begins h ∙ wrong_zero (drop (suc i) sizes) left n e)

  pub refused_past : i < length sizes → left < n → verdict (size_refusals frames sizes) ≡ refused 20
  refused_past h e = judged_wrong sizes frames true (omega arith) (begins h ∙ wrong_past (drop (suc i) sizes) left n e)

  pub rest_next : i < length sizes → (n ≡ 0 → ⊥) → n ≤ left → wrong sizes frames ≡ wrong (drop (i + 1) sizes) (left - n)
  rest_next h z e = rw add-one (begins h ∙ wrong_next (drop (suc i) sizes) left n z e)

  ended : length sizes ≤ i → wrong sizes frames ≡ wrong [] left
  ended h = rest ∙ ap (λ (l : List ℕ). wrong l left) (drop_of_length-le sizes {i = i} h)

  pub refused_left : 0 < length sizes → length sizes ≤ i → 0 < left → verdict (size_refusals frames sizes) ≡ refused 20
  refused_left s h e = judged_wrong sizes frames true s (ended h ∙ wrong_left left e)

  pub all_taken : 0 < length sizes → length sizes ≤ i → left ≤ 0 → verdict (size_refusals frames sizes) ≡ nothing
  all_taken s h e = judged_wrong sizes frames false s (ended h ∙ right-none left e)

-- the four ways out of the test
pub ruleset ways_out = (refused_zero, refused_past, refused_left, all_taken)

-- ---- sizes that are accepted

-- none is 0, and they add up to the frame count
pub record Right (sizes : List ℕ) (frames : ℕ) : Type 0 where
  pub no_zero : some_zero sizes ≡ false
  pub adds-up : total sizes ≡ frames

pub sizes_right : (sizes : List ℕ) (frames : ℕ) → 0 < length sizes → verdict (size_refusals frames sizes) ≡ nothing → Right sizes frames
sizes_right [] frames h e = absurd (omega arith)
sizes_right (n ∷ ns) frames h e =
    let sizes = n ∷ ns in
    let zero = some_zero sizes in
    let same = eqb (total sizes) frames in
    let f = (passed-by (wrong sizes frames) 20 nothing e).not-held in
    let both = (or-is-false zero (not same)).0 f in
    record { no_zero = both.0; adds-up = eqb-true (total sizes) frames (not-false same both.1) }

-- no list takes no frame
pub total-fits : (sizes : List ℕ) (frames : ℕ) → verdict (size_refusals frames sizes) ≡ nothing → total sizes ≤ frames
unfolding total
total-fits [] frames e = omega arith
total-fits (n ∷ ns) frames e = omega (arith, (sizes_right (n ∷ ns) frames (omega arith) e).adds-up)

-- of group g: its size is not 0, and its frames are among those that the sizes take
pub size-some : (sizes : List ℕ) (g : ℕ) → some_zero sizes ≡ false → g < length sizes → 0 < get_or sizes g 0
unfolding some_zero
size-some [] g z h = absurd (omega arith)
size-some (n ∷ ns) zero z h = pos_of_ne-zero (eqb-false n 0 ((or-is-false (eqb n 0) (some_zero ns)).0 z).0)
size-some (n ∷ ns) (suc g) z h = size-some ns g ((or-is-false (eqb n 0) (some_zero ns)).0 z).1 (omega arith)

pub span_fits : (sizes : List ℕ) (g : ℕ) → g < length sizes → total (take g sizes) + get_or sizes g 0 ≤ total sizes
unfolding total
span_fits [] g h = absurd (omega arith)
span_fits (n ∷ ns) zero h = omega arith
span_fits (n ∷ ns) (suc g) h = omega (arith, span_fits ns g (omega arith))
