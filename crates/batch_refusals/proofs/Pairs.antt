-- The pairs of a flat list, and what their tests find: by induction, two numbers a step. Assumes nothing.
use Rattle.std.specs.Simd.{first_chunks}
use mathlib.Core.Path.{◌≡◌, refl, sym, ap, ◌∙◌}
use mathlib.Core.Bool.{Bool, true, false, not, cond}
use mathlib.Core.List.{List, [], ◌∷◌, ◌++◌, map}
use Prim.Native.Nat.{ℕ, zero, suc, ◌+◌, ◌*◌, ◌/◌, ◌<◌, ◌≤◌}
use native.Mathlib.Numerals.{add-one}
use native.Mathlib.Omega.{arith}
use borrow.Author.Tests.{eqb-true, ltb-false, not-false}
use lib.Dec.{eqb, ltb}
use lib.ListN.{length, get_or, drop, length-map, drop_of_length-le, get_or-map}
use lib.Seq.{drop-cons}
use Rattle.refusal.specs.Outcome.{Outcome, accepted, refused, Condition, judged}
use Rattle.refusal.proofs.Judged.{verdict, nothing, passed-by, judged_accepted, judged_refused}
use Rattle.batch_refusals.specs.Pairs.{Pair, pair, pairs_of, AllWithin, none, more}
use Rattle.batch_refusals.specs.Refusals.{pair_tests, pair_refusals}
use Rattle.batch_refusals.specs.Steps.{next_seen, seen_all}

-- ---- the pairs

pub pairs-length : (ns : List ℕ) → length (pairs_of ns) ≡ length ns / 2
unfolding pairs_of
pairs-length [] = refl
pairs-length (o ∷ []) = refl
pairs-length (o ∷ n ∷ ns) = omega (arith, pairs-length ns)

pub pair_at : (ns : List ℕ) (j : ℕ) (d : Pair) → j < length (pairs_of ns) → get_or (pairs_of ns) j d ≡ pair (get_or ns (j * 2) 0) (get_or ns (suc (j * 2)) 0)
unfolding pairs_of
pair_at [] j d h = absurd (omega arith)
pair_at (o ∷ []) j d h = absurd (omega arith)
pair_at (o ∷ n ∷ ns) zero d h = refl
pair_at (o ∷ n ∷ ns) (suc j) d h =
    let e : suc j * 2 ≡ suc (suc (j * 2)) = omega arith in
    rw e (pair_at ns j d (omega arith))

-- two numbers as a pair, and the pairs as what the chunks of two are
abbrev pub of-two : List ℕ → Pair
of-two ns = pair (get_or ns 0 0) (get_or ns 1 0)

pub twos-pairs : (ns : List ℕ) → map of-two (first_chunks 2 (length ns / 2) ns) ≡ pairs_of ns
unfolding pairs_of
twos-pairs [] = refl
twos-pairs (o ∷ []) = refl
twos-pairs (o ∷ n ∷ ns) =
    let e : length (o ∷ n ∷ ns) / 2 ≡ suc (length ns / 2) = omega arith in
    rw (e, twos-pairs ns)

-- ---- the test of the pairs, pair by pair

-- one pair more, after a good one
module _ (n values : ℕ) {s : Outcome ℕ} {end : ℕ} (e : s ≡ accepted end) (p : Pair) where
  pub pair-bad : (k : ℕ) → verdict (pair_tests n values end p) ≡ refused k → refused k ≡ next_seen n values s p
  unfolding next_seen
  pair-bad k v = rw e (sym (judged_refused (pair_tests n values end p) (p.offset + p.size) k v))

  pub pair-good : verdict (pair_tests n values end p) ≡ nothing → accepted (p.offset + p.size) ≡ next_seen n values s p
  unfolding next_seen
  pair-good v = rw e (sym (judged_accepted (pair_tests n values end p) (p.offset + p.size) v))

-- what the pairs that are left come to
unfoldable pub seen_from : ℕ → ℕ → Outcome ℕ → List Pair → Outcome Unit
seen_from n values s [] = seen_all s
seen_from n values s (p ∷ ps) = seen_from n values (next_seen n values s p) ps

module _ (n values : ℕ) where
  after-refusal : (k : ℕ) (ps : List Pair) → seen_from n values (refused k) ps ≡ refused k
  unfolding seen_from next_seen
  after-refusal k [] = refl
  after-refusal k (p ∷ ps) = after-refusal k ps

  after_test : (t : Bool) (k : ℕ) (s : Outcome ℕ) (z : Outcome Unit) (ps : List Pair) → seen_from n values s ps ≡ z
      → seen_from n values (cond t (refused k) s) ps ≡ cond t (refused k) z
  after_test true k s z ps e = after-refusal k ps
  after_test false k s z ps e = e

  after-tests : (cs : List Condition) (end : ℕ) (ps : List Pair) (rest : List Condition) → seen_from n values (accepted end) ps ≡ verdict rest
      → seen_from n values (judged cs end) ps ≡ verdict (cs ++ rest)
  after-tests [] end ps rest e = e
  after-tests (c ∷ cs) end ps rest e = after_test c.holds c.number (judged cs end) (verdict (cs ++ rest)) ps (after-tests cs end ps rest e)

  -- the pairs, one after another, are judged as a whole
  pub seen-pairs : (end : ℕ) (ps : List Pair) → seen_from n values (accepted end) ps ≡ verdict (pair_refusals n values end ps)
  unfolding seen_from next_seen pair_refusals
  seen-pairs end [] = refl
  seen-pairs end (p ∷ ps) =
      let next = p.offset + p.size in
      after-tests (pair_tests n values end p) next ps (pair_refusals n values next ps) (seen-pairs next ps)

-- a list of anything that stands for pairs: one more, and none more
module _ {A : Type 0} (f : A → Pair) (n values : ℕ) (ys : List A) (i : ℕ) (s : Outcome ℕ) {z : Outcome Unit} where
  pub one-checked : (d : A) → i < length ys → {t : Outcome ℕ} → t ≡ next_seen n values s (f (get_or ys i d))
      → seen_from n values s (drop i (map f ys)) ≡ z → seen_from n values t (drop (i + 1) (map f ys)) ≡ z
  unfolding seen_from
  one-checked d p e w =
      let first : drop i (map f ys) ≡ f (get_or ys i d) ∷ drop (i + 1) (map f ys) =
      rw add-one (drop-cons (map f ys) i (f d) (simp length-map p) ∙ ap (λ q. q ∷ drop (suc i) (map f ys)) (get_or-map f ys i d)) in
      let here : seen_from n values (next_seen n values s (f (get_or ys i d))) (drop (i + 1) (map f ys)) ≡ z = rw first at w in
      rw e here

  pub all-checked : length ys ≤ i → seen_from n values s (drop i (map f ys)) ≡ z → seen_all s ≡ z
  unfolding seen_from
  all-checked p w = rw (drop_of_length-le (map f ys) {i = i} (simp length-map p)) at w

-- ---- accepted pairs lie within the values

pub all_within : (n values end : ℕ) (ps : List Pair) → verdict (pair_refusals n values end ps) ≡ nothing → AllWithin n values ps
unfolding pair_refusals
all_within n values end [] e = none
all_within n values end (p ∷ ps) e =
    let a = passed-by (not (eqb p.size n)) 10 _ e in
    let b = passed-by (ltb p.offset end) 11 _ a.others in
    let c = passed-by (ltb values (p.offset + p.size)) 12 _ b.others in
    more (eqb-true p.size n (not-false (eqb p.size n) a.not-held)) (ltb-false values (p.offset + p.size) c.not-held)
    (all_within n values (p.offset + p.size) ps c.others)

pub within_at : {n values : ℕ} {ps : List Pair} → AllWithin n values ps → (j : ℕ) (d : Pair) → j < length ps
    → ((get_or ps j d).size ≡ n) × ((get_or ps j d).offset + (get_or ps j d).size ≤ values)
within_at none j d h = absurd (omega arith)
within_at (more s o w) zero d h = (s, o)
within_at (more s o w) (suc j) d h = within_at w j d (omega arith)
