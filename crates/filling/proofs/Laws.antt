-- What N7 promises of a filled word, for any check list. By induction over the settings: each is of a bit that was unknown and is known after,
-- so N settings leave no check with one. That no position is named twice in a check matters for `none_left` alone, which speaks of positions
-- where the filling of erasures looks at entries. Assumes nothing.
use mathlib.Core.Path.{◌≡◌, refl, sym, ap, ◌∙◌}
use mathlib.Core.Bool.{Bool, true, false, cond}
use mathlib.Core.List.{[], ◌∷◌}
use Prim.Native.Nat.{ℕ, zero, suc, ◌+◌, ◌<◌, ◌≤◌}
use native.Mathlib.Decide.{dec_lt, ℕ_discrete}
use native.Mathlib.Omega.{arith}
use borrow.Author.Tests.{eq-eqb, ne_eqb}
use lib.Dec.{eqb}
use lib.ListN.{length, get_or, set, length-set, get_or-eq_default}
use lib.Seq.{get_or-set_same, get_or-set_other}
use Rattle.tanner.specs.Checks.{Word, Checks, count}
use Rattle.lists.specs.Below.{Below}
use Rattle.lists.proofs.Below.{below_at}
use Rattle.filling.specs.Filling.{Setting, none, at, lowest, fill_by, filled, filled_word, filled_places}
use Rattle.filling.specs.Promise.{named, NoneTwice, Agrees, Fills}
use Rattle.filling.proofs.Named.{named_cons, named_none, named-fresh, named_other}
use Rattle.filling.proofs.Settings.{Taken, taken, taken_unknown, taken_inside, taken_bit, taken_right, no_setting, only_set}

-- ---- one setting

module _ {cs : Checks} {w : Word} {p b : ℕ} (t : Taken cs w p b) where
  pub set_here : get_or (set w p b) p 0 ≡ b
  set_here = get_or-set_same w p b 0 (taken_inside t)

  pub set_known : get_or (set w p b) p 0 ≡ 2 → ⊥
  set_known e = omega (arith, set_here, taken_bit t)

  -- a position that is known stays so, and one that is unknown after was so before
  pub set-kept : (q : ℕ) → (get_or w q 0 ≡ 2 → ⊥) → get_or (set w p b) q 0 ≡ get_or w q 0
  set-kept q known = get_or-set_other w p q b 0 (λ e. known (ap (λ (x : ℕ). get_or w x 0) e ∙ taken_unknown t))

  pub set-unknown : (q : ℕ) → get_or (set w p b) q 0 ≡ 2 → get_or w q 0 ≡ 2
  set-unknown q e = sym (get_or-set_other w p q b 0 (λ s. set_known (ap (λ (x : ℕ). get_or (set w p b) x 0) (sym s) ∙ e))) ∙ e

  pub still-known : (q : ℕ) → (get_or w q 0 ≡ 2 → ⊥) → get_or (set w p b) q 0 ≡ 2 → ⊥
  still-known q known e = known (set-unknown q e)

-- ---- all settings: s is the one that comes next

module _ (cs : Checks) where
  fill-length : (n : ℕ) (s : Setting) (w : Word) → length (fill_by n cs s w).word ≡ length w
  unfolding fill_by
  fill-length zero s w = refl
  fill-length (suc n) none w = refl
  fill-length (suc n) (at p b) w = fill-length n (lowest cs (set w p b)) (set w p b) ∙ length-set w p b

  fill-few : (n : ℕ) (s : Setting) (w : Word) → length (fill_by n cs s w).places ≤ n
  unfolding fill_by
  fill-few zero s w = omega arith
  fill-few (suc n) none w = omega arith
  fill-few (suc n) (at p b) w = omega (arith, fill-few n (lowest cs (set w p b)) (set w p b))

  fill-kept : (n : ℕ) (s : Setting) (w : Word) → lowest cs w ≡ s → (q : ℕ) → (get_or w q 0 ≡ 2 → ⊥) → get_or (fill_by n cs s w).word q 0 ≡ get_or w q 0
  unfolding fill_by
  fill-kept zero s w e q known = refl
  fill-kept (suc n) none w e q known = refl
  fill-kept (suc n) (at p b) w e q known =
      let t = taken cs w p b e in
      fill-kept n (lowest cs (set w p b)) (set w p b) refl q (still-known t q known) ∙ set-kept t q known

  fill-unknown : (n : ℕ) (s : Setting) (w : Word) → lowest cs w ≡ s → (i : ℕ) → i < length (fill_by n cs s w).places
      → get_or w (get_or (fill_by n cs s w).places i 0) 0 ≡ 2
  unfolding fill_by
  fill-unknown zero s w e i h = absurd (omega arith)
  fill-unknown (suc n) none w e i h = absurd (omega arith)
  fill-unknown (suc n) (at p b) w e zero h = taken_unknown (taken cs w p b e)
  fill-unknown (suc n) (at p b) w e (suc i) h =
      set-unknown (taken cs w p b e) _ (fill-unknown n (lowest cs (set w p b)) (set w p b) refl i (omega arith))

  fill-bits : (n : ℕ) (s : Setting) (w : Word) → lowest cs w ≡ s → (i : ℕ) → i < length (fill_by n cs s w).places
      → get_or (fill_by n cs s w).word (get_or (fill_by n cs s w).places i 0) 0 < 2
  unfolding fill_by
  fill-bits zero s w e i h = absurd (omega arith)
  fill-bits (suc n) none w e i h = absurd (omega arith)
  fill-bits (suc n) (at p b) w e zero h =
      let t = taken cs w p b e in
      omega (arith, taken_bit t, set_here t, fill-kept n (lowest cs (set w p b)) (set w p b) refl p (set_known t))
  fill-bits (suc n) (at p b) w e (suc i) h = fill-bits n (lowest cs (set w p b)) (set w p b) refl i (omega arith)

  -- a known position is not listed
  fill-unnamed : (n : ℕ) (s : Setting) (w : Word) → lowest cs w ≡ s → (q : ℕ) → (get_or w q 0 ≡ 2 → ⊥) → named q (fill_by n cs s w).places ≡ 0
  unfolding fill_by
  fill-unnamed zero s w e q known = named_none q
  fill-unnamed (suc n) none w e q known = named_none q
  fill-unnamed (suc n) (at p b) w e q known =
      let t = taken cs w p b e in
      named_other q p _ (λ s. known (ap (λ (x : ℕ). get_or w x 0) (sym s) ∙ taken_unknown t))
      ∙ fill-unnamed n (lowest cs (set w p b)) (set w p b) refl q (still-known t q known)

  fill-once : (n : ℕ) (s : Setting) (w : Word) → lowest cs w ≡ s → (q : ℕ) → named q (fill_by n cs s w).places ≤ 1
  unfolding fill_by
  fill-once zero s w e q = omega (arith, named_none q)
  fill-once (suc n) none w e q = omega (arith, named_none q)
  fill-once (suc n) (at p b) w e q =
      named-fresh q p _ (fill-unnamed n (lowest cs (set w p b)) (set w p b) refl p (set_known (taken cs w p b e)))
      (fill-once n (lowest cs (set w p b)) (set w p b) refl q)

  fill-unlisted : (n : ℕ) (s : Setting) (w : Word) → lowest cs w ≡ s → (q : ℕ) → named q (fill_by n cs s w).places ≡ 0
      → get_or (fill_by n cs s w).word q 0 ≡ get_or w q 0
  unfolding fill_by
  fill-unlisted zero s w e q h = refl
  fill-unlisted (suc n) none w e q h = refl
  fill-unlisted (suc n) (at p b) w e q h =
      let more : cond (eqb p q) 1 0 + named q (fill_by n cs (lowest cs (set w p b)) (set w p b)).places ≡ 0 = sym (named_cons q p _) ∙ h in
      fill-unlisted n (lowest cs (set w p b)) (set w p b) refl q (omega arith)
      ∙ get_or-set_other w p q b 0 (λ s. apart _ (eqb p q) (eq-eqb p q (sym s)) more)
    where
      apart : (m : ℕ) (t : Bool) → t ≡ true → cond t 1 0 + m ≡ 0 → ⊥
      apart m true f h = omega arith
      apart m false f h = let z : ◌≡◌ {A = ℕ} 0 1 = cc in omega arith

-- ---- the settings come to an end: no check is left

-- how many bits are unknown
holes : Word → ℕ
holes [] = 0
holes (b ∷ w) = cond (eqb b 2) 1 0 + holes w

holes_few : (w : Word) → holes w ≤ length w
unfolding holes
holes_few [] = omega arith
holes_few (b ∷ w) = by (eqb b 2) (holes_few w)
  where
    by : (t : Bool) → holes w ≤ length w → cond t 1 0 + holes w ≤ suc (length w)
    by true h = omega arith
    by false h = omega arith

holes_some : (w : Word) (p : ℕ) → get_or w p 0 ≡ 2 → 0 < holes w
unfolding holes
holes_some [] p e = absurd (omega arith)
holes_some (b ∷ w) zero e = rw (eq-eqb b 2 e) (omega arith)
holes_some (b ∷ w) (suc p) e = omega (arith, holes_some w p e)

holes_fewer : (w : Word) (p b : ℕ) → get_or w p 0 ≡ 2 → b < 2 → holes w ≡ suc (holes (set w p b))
unfolding holes
holes_fewer [] p b e h = absurd (omega arith)
holes_fewer (x ∷ w) zero b e h = rw (eq-eqb x 2 e, ne_eqb b 2 (λ s. omega arith)) (omega arith)
holes_fewer (x ∷ w) (suc p) b e h = omega (arith, holes_fewer w p b e h)

nothing-next : (cs : Checks) (w : Word) → holes w ≡ 0 → lowest cs w ≡ none
nothing-next cs w h = by (lowest cs w) refl
  where
    by : (s : Setting) → lowest cs w ≡ s → s ≡ none
    by none e = refl
    by (at p b) e = absurd (omega (arith, holes_some w p (taken_unknown (taken cs w p b e))))

none-next : (cs : Checks) (n : ℕ) (s : Setting) (w : Word) → lowest cs w ≡ s → holes w ≤ n → lowest cs (fill_by n cs s w).word ≡ none
unfolding fill_by
none-next cs zero s w e h = nothing-next cs w (omega arith)
none-next cs (suc n) none w e h = e
none-next cs (suc n) (at p b) w e h =
    let t = taken cs w p b e in
    none-next cs n (lowest cs (set w p b)) (set w p b) refl (omega (arith, holes_fewer w p b (taken_unknown t) (taken_bit t)))

-- ---- every word of count 0 that agrees with the known bits

AgreesAll : Word → Word → Type 0
AgreesAll w v = (q : ℕ) → (get_or w q 0 ≡ 2 → ⊥) → get_or w q 0 ≡ get_or v q 0

agrees_past : (w v : Word) → Agrees w v → AgreesAll w v
unfolding AgreesAll
agrees_past w v a q known = by (dec_lt q (length w))
  where
    by : Dec (q < length w) → get_or w q 0 ≡ get_or v q 0
    by (yes h) = a.known q h known
    by (no h) = get_or-eq_default w 0 (omega arith) ∙ sym (get_or-eq_default v 0 (omega (arith, a.long)))

module _ (cs : Checks) (v : Word) (bits : Below 2 v) (z : count cs v ≡ 0) where
  set_agrees : {w : Word} {p b : ℕ} → Taken cs w p b → AgreesAll w v → AgreesAll (set w p b) v
  unfolding AgreesAll
  set_agrees {w} {p} {b} t a q known = by (ℕ_discrete q p)
    where
      by : Dec (q ≡ p) → get_or (set w p b) q 0 ≡ get_or v q 0
      by (yes s) = rw s (set_here t ∙ taken_right v a (below_at 1 v p bits) z t)
      by (no s) = let same = get_or-set_other w p q b 0 s in same ∙ a q (λ e. known (same ∙ e))

  fill-agrees : (n : ℕ) (s : Setting) (w : Word) → lowest cs w ≡ s → AgreesAll w v → AgreesAll (fill_by n cs s w).word v
  unfolding fill_by
  fill-agrees zero s w e a = a
  fill-agrees (suc n) none w e a = a
  fill-agrees (suc n) (at p b) w e a = fill-agrees n (lowest cs (set w p b)) (set w p b) refl (set_agrees (taken cs w p b e) a)

-- ---- "One proof covers all check lists that name no position twice in a check."
pub fills : (cs : Checks) (w : Word) → NoneTwice cs → Fills cs w
unfolding filled_word filled_places filled NoneTwice AgreesAll
fills cs w twice =
    let n = length w in
    let s = lowest cs w in
    record {
      long = fill-length cs n s w;
      known = fill-kept cs n s w refl;
      were_unknown = fill-unknown cs n s w refl;
      are_bits = fill-bits cs n s w refl;
      once = fill-once cs n s w refl;
      unlisted = fill-unlisted cs n s w refl;
      few = fill-few cs n s w;
      none_left =
          λ c p u. only_set (get_or cs c []) (fill_by n cs s w).word p (twice c p) u
          (no_setting cs (fill_by n cs s w).word (none-next cs n s w refl (holes_few w)) c);
      every_word = λ v a z. record {
        long = a.long ∙ sym (fill-length cs n s w);
        bits = a.bits;
        known = λ p h k. fill-agrees cs v a.bits z n s w refl (agrees_past w v a) p k;
      };
    }
