-- The setting that comes next: which check it is taken from, that its position was unknown, and that its bit is that of every word of count 0
-- that agrees with the known bits. By induction over the checks and over the positions of a check. Assumes nothing.
use mathlib.Core.Path.{◌≡◌, refl, sym, ap, ◌∙◌}
use mathlib.Core.Bool.{Bool, true, false, cond}
use mathlib.Core.List.{List, [], ◌∷◌}
use Prim.Native.Nat.{ℕ, zero, suc, ◌+◌, ◌%◌, ◌<◌, ◌≤◌}
use native.Mathlib.Omega.{arith}
use borrow.Author.Tests.{eq-eqb, ne_eqb, eqb-true, eqb-false}
use lib.Dec.{eqb}
use lib.ListN.{length, get_or}
use Rattle.tanner.specs.Checks.{Word, Checks, parity, count}
use Rattle.tanner.proofs.Count.{parity_bit}
use Rattle.filling.specs.Filling.{unknowns, others, Setting, none, at, setting_of, setting_in, or_else, lowest}
use Rattle.filling.specs.Promise.{named, OnlyUnknown}
use Rattle.filling.proofs.Named.{named_cons, named_none, named_head, named_tail}

-- ---- the check that it is taken from

pub record Taken (cs : Checks) (w : Word) (p b : ℕ) : Type 0 where
  pub check : ℕ
  pub only : unknowns (get_or cs check []) w ≡ p ∷ []
  pub bit : b ≡ parity (others p (get_or cs check [])) w

-- a list of one
pub record Single (c : List ℕ) (w : Word) (us : List ℕ) (p b : ℕ) : Type 0 where
  pub one : us ≡ p ∷ []
  pub bit : b ≡ parity (others p c) w

single : (c : List ℕ) (w : Word) (us : List ℕ) (p b : ℕ) → setting_of c w us ≡ at p b → Single c w us p b
single c w [] p b e = let z : ◌≡◌ {A = ℕ} 0 1 = cc in absurd (omega arith)
single c w (q ∷ []) p b e =
    let same : q ≡ p = cc in
    let d : parity (others q c) w ≡ b = cc in
    record { one = rw same; bit = rw same at (sym d) }
single c w (q ∷ (r ∷ us)) p b e = let z : ◌≡◌ {A = ℕ} 0 1 = cc in absurd (omega arith)

later : {c : List ℕ} {cs : Checks} {w : Word} {p b : ℕ} → Taken cs w p b → Taken (c ∷ cs) w p b
later t = record { check = suc t.check; only = t.only; bit = t.bit }

pub taken : (cs : Checks) (w : Word) (p b : ℕ) → lowest cs w ≡ at p b → Taken cs w p b
unfolding lowest setting_in
taken [] w p b e = let z : ◌≡◌ {A = ℕ} 0 1 = cc in absurd (omega arith)
taken (c ∷ cs) w p b e = by (setting_of c w (unknowns c w)) refl (taken cs w p b) e
  where
    by : (s : Setting) → setting_of c w (unknowns c w) ≡ s → (lowest cs w ≡ at p b → Taken cs w p b) → or_else s (lowest cs w) ≡ at p b → Taken (c ∷ cs) w p b
    by none f ih e = later (ih e)
    by (at q d) f ih e = let s = single c w (unknowns c w) p b (f ∙ e) in record { check = 0; only = s.one; bit = s.bit }

pub no_setting : (cs : Checks) (w : Word) → lowest cs w ≡ none → (i : ℕ) → setting_in (get_or cs i []) w ≡ none
unfolding lowest setting_in unknowns
no_setting [] w e i = refl
no_setting (c ∷ cs) w e i = by (setting_of c w (unknowns c w)) refl (no_setting cs w) e i
  where
    by : (s : Setting) → setting_of c w (unknowns c w) ≡ s → (lowest cs w ≡ none → (i : ℕ) → setting_of (get_or cs i []) w (unknowns (get_or cs i []) w) ≡ none)
        → or_else s (lowest cs w) ≡ none → (i : ℕ) → setting_of (get_or (c ∷ cs) i []) w (unknowns (get_or (c ∷ cs) i []) w) ≡ none
    by none f ih e zero = f
    by none f ih e (suc i) = ih e i
    by (at q d) f ih e i = let z : ◌≡◌ {A = ℕ} 0 1 = cc in absurd (omega arith)

-- ---- its position was unknown, and its bit is 0 or 1

head_unknown : (c : List ℕ) (w : Word) (p : ℕ) (us : List ℕ) → unknowns c w ≡ p ∷ us → get_or w p 0 ≡ 2
unfolding unknowns
head_unknown [] w p us e = let z : ◌≡◌ {A = ℕ} 0 1 = cc in absurd (omega arith)
head_unknown (q ∷ qs) w p us e = by (eqb (get_or w q 0) 2) refl (head_unknown qs w p us) e
  where
    by : (t : Bool) → eqb (get_or w q 0) 2 ≡ t → (unknowns qs w ≡ p ∷ us → get_or w p 0 ≡ 2)
        → cond t (q ∷ unknowns qs w) (unknowns qs w) ≡ p ∷ us → get_or w p 0 ≡ 2
    by true f ih e = let same : q ≡ p = cc in rw same at (eqb-true (get_or w q 0) 2 f)
    by false f ih e = ih e

pub taken_unknown : {cs : Checks} {w : Word} {p b : ℕ} → Taken cs w p b → get_or w p 0 ≡ 2
taken_unknown {cs} {w} {p} t = head_unknown (get_or cs t.check []) w p [] t.only

-- an entry that is not 0 lies within the word
inside : (w : Word) (p : ℕ) → get_or w p 0 ≡ 2 → p < length w
inside [] p e = absurd (omega arith)
inside (b ∷ w) zero e = omega arith
inside (b ∷ w) (suc p) e = omega (arith, inside w p e)

pub taken_inside : {cs : Checks} {w : Word} {p b : ℕ} → Taken cs w p b → p < length w
taken_inside {w = w} {p = p} t = inside w p (taken_unknown t)

pub taken_bit : {cs : Checks} {w : Word} {p b : ℕ} → Taken cs w p b → b < 2
taken_bit {cs} {w} {p} t = omega (arith, t.bit, parity_bit (others p (get_or cs t.check [])) w)

-- ---- the unknown position holds 2, so that the parity of the others is that of all

others-parity : (w : Word) (p : ℕ) → get_or w p 0 ≡ 2 → (c : List ℕ) → parity (others p c) w ≡ parity c w
unfolding others parity
others-parity w p hole [] = refl
others-parity w p hole (q ∷ qs) = by (eqb q p) refl (others-parity w p hole qs)
  where
    by : (t : Bool) → eqb q p ≡ t → parity (others p qs) w ≡ parity qs w → parity (cond t (others p qs) (q ∷ others p qs)) w ≡ (get_or w q 0 + parity qs w) % 2
    by true f ih = rw (eqb-true q p f, hole) (omega (arith, ih, parity_bit qs w))
    by false f ih = rw ih

pub setting_parity : (c : List ℕ) (w : Word) (p b : ℕ) → setting_in c w ≡ at p b → b ≡ parity c w
unfolding setting_in
setting_parity c w p b e =
    let s = single c w (unknowns c w) p b e in
    s.bit ∙ others-parity w p (head_unknown c w p [] s.one) c

-- ---- "the parity of the others" is the bit of every word of count 0 that agrees with the known bits

-- a known position is not the unknown one
known_other : (w : Word) (p : ℕ) → get_or w p 0 ≡ 2 → (q : ℕ) → eqb (get_or w q 0) 2 ≡ false → eqb q p ≡ false
known_other w p hole q e = ne_eqb q p (λ s. eqb-false (get_or w q 0) 2 e (ap (λ (x : ℕ). get_or w x 0) s ∙ hole))

module _ (w v : Word) (p : ℕ) (hole : get_or w p 0 ≡ 2) (agree : (q : ℕ) → (get_or w q 0 ≡ 2 → ⊥) → get_or w q 0 ≡ get_or v q 0) where
  all_known : (c : List ℕ) → unknowns c w ≡ [] → parity c v ≡ parity (others p c) w
  unfolding unknowns others parity
  all_known [] e = refl
  all_known (q ∷ qs) e = by (eqb (get_or w q 0) 2) refl (all_known qs) e
    where
      by : (t : Bool) → eqb (get_or w q 0) 2 ≡ t → (unknowns qs w ≡ [] → parity qs v ≡ parity (others p qs) w) → cond t (q ∷ unknowns qs w) (unknowns qs w) ≡ []
          → (get_or v q 0 + parity qs v) % 2 ≡ parity (cond (eqb q p) (others p qs) (q ∷ others p qs)) w
      by true f ih e = let z : ◌≡◌ {A = ℕ} 0 1 = cc in absurd (omega arith)
      by false f ih e = rw (known_other w p hole q f, ih e, agree q (eqb-false (get_or w q 0) 2 f))

  one-unknown : (c : List ℕ) → unknowns c w ≡ p ∷ [] → parity c v ≡ (get_or v p 0 + parity (others p c) w) % 2
  unfolding unknowns others parity
  one-unknown [] e = let z : ◌≡◌ {A = ℕ} 0 1 = cc in absurd (omega arith)
  one-unknown (q ∷ qs) e = by (eqb (get_or w q 0) 2) refl (one-unknown qs) e
    where
      by : (t : Bool) → eqb (get_or w q 0) 2 ≡ t → (unknowns qs w ≡ p ∷ [] → parity qs v ≡ (get_or v p 0 + parity (others p qs) w) % 2)
          → cond t (q ∷ unknowns qs w) (unknowns qs w) ≡ p ∷ []
          → (get_or v q 0 + parity qs v) % 2 ≡ (get_or v p 0 + parity (cond (eqb q p) (others p qs) (q ∷ others p qs)) w) % 2
      by true f ih e =
          let same : q ≡ p = cc in
          let rest : unknowns qs w ≡ [] = cc in
          rw (eq-eqb q p same, same, all_known qs rest)
      by false f ih e = rw (known_other w p hole q f, ih e, agree q (eqb-false (get_or w q 0) 2 f)) (omega arith)

zero-parity : (cs : Checks) (v : Word) → count cs v ≡ 0 → (i : ℕ) → parity (get_or cs i []) v ≡ 0
unfolding count parity
zero-parity [] v e i = refl
zero-parity (c ∷ cs) v e zero = omega (arith, e)
zero-parity (c ∷ cs) v e (suc i) = zero-parity cs v (omega (arith, e)) i

pub taken_right : {cs : Checks} {w : Word} {p b : ℕ} (v : Word) → ((q : ℕ) → (get_or w q 0 ≡ 2 → ⊥) → get_or w q 0 ≡ get_or v q 0)
    → get_or v p 0 < 2 → count cs v ≡ 0 → Taken cs w p b → b ≡ get_or v p 0
taken_right {cs} {w} {p} v agree bit z t =
    let c = get_or cs t.check [] in
    omega (arith, t.bit, zero-parity cs v z t.check, one-unknown w v p (taken_unknown t) agree c t.only, parity_bit (others p c) w)

-- ---- a check whose one unknown position is named once has a setting

module _ (w : Word) (p : ℕ) (hole : get_or w p 0 ≡ 2) where
  -- where every unknown position is p, there are as many unknowns as p is named
  as-named : (c : List ℕ) → ((q : ℕ) → 0 < named q c → get_or w q 0 ≡ 2 → q ≡ p) → length (unknowns c w) ≡ named p c
  unfolding unknowns
  as-named [] alone = sym (named_none p)
  as-named (q ∷ qs) alone = by (eqb (get_or w q 0) 2) refl (as-named qs (λ r h. alone r (named_tail r q qs h)))
    where
      by : (t : Bool) → eqb (get_or w q 0) 2 ≡ t → length (unknowns qs w) ≡ named p qs → length (cond t (q ∷ unknowns qs w) (unknowns qs w)) ≡ named p (q ∷ qs)
      by true f ih = rw (named_cons p q qs, eq-eqb q p (alone q (named_head q qs) (eqb-true (get_or w q 0) 2 f))) (omega arith)
      by false f ih = rw (named_cons p q qs, known_other w p hole q f) (omega arith)

one_set : (c : List ℕ) (w : Word) (us : List ℕ) → length us ≡ 1 → setting_of c w us ≡ none → ⊥
one_set c w [] n e = omega arith
one_set c w (p ∷ []) n e = let z : ◌≡◌ {A = ℕ} 0 1 = cc in omega arith
one_set c w (p ∷ (q ∷ us)) n e = omega arith

-- here it matters that no position is named twice
pub only_set : (c : List ℕ) (w : Word) (p : ℕ) → named p c ≤ 1 → OnlyUnknown c w p → setting_in c w ≡ none → ⊥
unfolding setting_in
only_set c w p h u e = one_set c w (unknowns c w) (omega (arith, as-named w p u.unknown c u.alone, u.covered)) e
