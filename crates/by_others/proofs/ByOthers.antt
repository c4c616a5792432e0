-- Both engines of min-sum give the same answers, whatever ties, NaN, infinities and zeros the messages hold: by one induction over the messages, since
-- what is kept is, at each entry passed, the least magnitude of its others so far. Assumes nothing.
use mathlib.Core.Bool.{Bool, true, false, cond}
use mathlib.Core.Path.{◌≡◌, refl, sym, ap, subst, ◌∙◌}
use mathlib.Core.List.{List, [], ◌∷◌, ◌++◌, append_assoc, append-nil}
use Prim.Native.Nat.{ℕ, suc, ◌+◌, ◌*◌, ◌≤◌, ◌<◌}
use native.Mathlib.Nat.{lt_of_not-le}
use native.Mathlib.Omega.{arith}
use native.Mathlib.Numerals.{add-one}
use lib.ListN.{length, take, drop, set, drop_of_length-le}
use lib.Seq.{take-suc, take-suc-set, drop-cons, take_all}
use lib.Dec.{eqb}
use lib.Ieee.{Float, nan, inf, fin, up, down, neg, lt, eq}
use lib.Ieee.Fits.{down_pos}
use lib.Ieee.Positive.{through}
use borrow.Author.Tests.{ltb-true, ltb-false, lt-ltb, le-ltb, eqb-true, eq-eqb, ne_eqb}
use Rattle.softmath.specs.Single.{◌⊗◌, zero32, one32, fold_from}
use Rattle.softmath.specs.Functions.{magnitude_of}
use Rattle.softmath.specs.CheckNode.{Minima, over_others, none_seen, turned, seen, minima_from, minima_of, min_answer, min_answers, min_sum, check_step}
use Rattle.by_others.specs.Others.{lesser_of, turned_by, least_of, sign_of, others_answer, others_sum}
use Rattle.softmath.specs.declared.DecodeRule.TheVariants.{MinSum, ScaledMinSum}
use Rattle.softmath.proofs.LeaveOneOut.{fold-append}

lt_self : (x y : Float) → lt x y ≡ true → eq x x ≡ true
unfolding lt eq
lt_self nan y h = cc
lt_self (inf true) y h = refl
lt_self (inf false) y h = refl
lt_self (fin true m e) y h = rw (eq-eqb (m * up e * down e) (m * up e * down e) refl) refl
lt_self (fin false m e) y h = rw (eq-eqb (m * up e * down e) (m * up e * down e) refl) refl

-- ---- the order of magnitudes

cross_below : (x y z p q r : ℕ) → 0 < q → z * p < x * r → x * q ≤ y * p → z * q < y * r
cross_below x y z p q r Q h k = lt_of_not-le (λ w. omega (arith, h, through x y z p q r Q k w))

-- below one magnitude and hence below another that is not less
below_other : (u v w : Float) → eq (magnitude_of w) (magnitude_of w) ≡ true → lt (magnitude_of u) (magnitude_of v) ≡ true
    → lt (magnitude_of w) (magnitude_of v) ≡ false
    → lt (magnitude_of u) (magnitude_of w) ≡ true
unfolding lt eq magnitude_of
below_other nan v w g h k = cc
below_other (inf s) nan w g h k = cc
below_other (inf s) (inf t) w g h k = cc
below_other (inf s) (fin t n d) w g h k = cc
below_other (fin s m e) nan w g h k = cc
below_other (fin s m e) (inf t) nan g h k = cc
below_other (fin s m e) (inf t) (inf r) g h k = refl
below_other (fin s m e) (inf t) (fin r l c) g h k = cc
below_other (fin s m e) (fin t n d) nan g h k = cc
below_other (fin s m e) (fin t n d) (inf r) g h k = refl
below_other (fin s m e) (fin t n d) (fin r l c) g h k =
    lt-ltb (m * up e * down c) (l * up c * down e)
    (cross_below (n * up d) (l * up c) (m * up e) (down d) (down c) (down e) (down_pos c) (ltb-true (m * up e * down d) (n * up d * down e) h)
    (ltb-false (l * up c * down d) (n * up d * down c) k))

not_both : (u v : Float) → lt (magnitude_of u) (magnitude_of v) ≡ true → lt (magnitude_of v) (magnitude_of u) ≡ false
unfolding lt magnitude_of
not_both nan v h = cc
not_both (inf s) nan h = cc
not_both (inf s) (inf t) h = cc
not_both (inf s) (fin t n d) h = cc
not_both (fin s m e) nan h = cc
not_both (fin s m e) (inf t) h = refl
not_both (fin s m e) (fin t n d) h =
    le-ltb (n * up d * down e) (m * up e * down d) (omega (arith, ltb-true (m * up e * down d) (n * up d * down e) h))

-- a magnitude, and no NaN
abbrev Size : Float → Type 0
Size x = (eq x x ≡ true) × (x ≡ magnitude_of x)

magnitude_twice : (v : Float) → magnitude_of v ≡ magnitude_of (magnitude_of v)
unfolding magnitude_of
magnitude_twice nan = refl
magnitude_twice (inf s) = refl
magnitude_twice (fin s m e) = refl

below_second : (v l s : Float) → Size l → Size s → lt s l ≡ false → lt (magnitude_of v) l ≡ true → lt (magnitude_of v) s ≡ true
below_second v l s kl ks k h =
    let k1 : lt (magnitude_of s) (magnitude_of l) ≡ false =
    subst (λ (z : Float). lt z (magnitude_of l) ≡ false) ks.1 (subst (λ (z : Float). lt s z ≡ false) kl.1 k) in
    subst (λ (z : Float). lt (magnitude_of v) z ≡ true) (sym ks.1)
    (below_other v l s (subst (λ (z : Float). eq z z ≡ true) ks.1 ks.0) (subst (λ (z : Float). lt (magnitude_of v) z ≡ true) kl.1 h) k1)

not_below : (v l : Float) → Size l → lt (magnitude_of v) l ≡ true → lt l (magnitude_of v) ≡ false
not_below v l kl h = subst (λ (z : Float). lt z (magnitude_of v) ≡ false) (sym kl.1)
    (not_both v l (subst (λ (z : Float). lt (magnitude_of v) z ≡ true) kl.1 h))

-- ---- what is kept, after one message more: x and y say what the two tests answered

abbrev chosen : Bool → Bool → Minima → Float → ℕ → Minima
chosen x y m a i =
    cond x (record { least = a; second = m.least; place = i; sign = m.sign })
    (cond y (record { least = m.least; second = a; place = m.place; sign = m.sign }) m)

-- both are magnitudes, and the second is not below the least
abbrev Kept : Minima → Type 0
Kept m = Size m.least × Size m.second × (lt m.second m.least ≡ false)

kept-chosen : (x y : Bool) (m : Minima) (v : Float) (i : ℕ) → lt (magnitude_of v) m.least ≡ x → lt (magnitude_of v) m.second ≡ y → Kept m
    → Kept (chosen x y m (magnitude_of v) i)
kept-chosen true y m v i qx qy k = ((lt_self (magnitude_of v) m.least qx, magnitude_twice v), k.0, not_below v m.least k.0 qx)
kept-chosen false true m v i qx qy k = (k.0, (lt_self (magnitude_of v) m.second qy, magnitude_twice v), qx)
kept-chosen false false m v i qx qy k = k

-- the place is one passed; before any message is, both are +infinity
abbrev Early : Minima → ℕ → Type 0
Early m i = (m.place ≤ i) × (m.place ≡ i → m.second ≡ m.least)

early_chosen : (x y : Bool) (m : Minima) (a : Float) (i : ℕ) → m.place ≤ i → Early (chosen x y m a i) (suc i)
early_chosen true y m a i p = (omega arith, λ q. absurd (omega (arith, q)))
early_chosen false true m a i p = (omega (arith, p), λ q. absurd (omega (arith, p, q)))
early_chosen false false m a i p = (omega (arith, p), λ q. absurd (omega (arith, p, q)))

-- the least magnitude of the others of entry j
abbrev other_least : ℕ → Minima → Float
other_least j m = cond (eqb j m.place) m.second m.least

-- at its own turn an entry's others are those before
own_chosen : (x y b : Bool) (m : Minima) (a : Float) (i : ℕ) → lt a m.least ≡ x → lt a m.second ≡ y → eqb i m.place ≡ b
    → (m.place ≡ i → m.second ≡ m.least)
    → other_least i (chosen x y m a i) ≡ m.least
own_chosen true y b m a i qx qy qb f = rw (eq-eqb i i refl) refl
own_chosen false true true m a i qx qy qb f =
    let same : m.second ≡ m.least = f (sym (eqb-true i m.place qb)) in
    cc (qx, qy, same)
own_chosen false true false m a i qx qy qb f = rw qb refl
own_chosen false false true m a i qx qy qb f = rw qb (f (sym (eqb-true i m.place qb)))
own_chosen false false false m a i qx qy qb f = rw qb refl

-- later the new message is one of its others
later-chosen : (x y b : Bool) (m : Minima) (v : Float) (i j : ℕ) → lt (magnitude_of v) m.least ≡ x → lt (magnitude_of v) m.second ≡ y
    → eqb j m.place ≡ b → Kept m → j < i
    → other_least j (chosen x y m (magnitude_of v) i) ≡ lesser_of (other_least j m) v
later-chosen true y true m v i j qx qy qb k h = rw (qb, ne_eqb j i (λ q. omega (arith, h, q)), below_second v m.least m.second k.0 k.1 k.2 qx)
    refl
later-chosen true y false m v i j qx qy qb k h = rw (qb, ne_eqb j i (λ q. omega (arith, h, q)), qx) refl
later-chosen false true true m v i j qx qy qb k h = rw (qb, qy) refl
later-chosen false true false m v i j qx qy qb k h = rw (qb, qx) refl
later-chosen false false true m v i j qx qy qb k h = rw (qb, qy) refl
later-chosen false false false m v i j qx qy qb k h = rw (qb, qx) refl

least_chosen : (x y : Bool) (m : Minima) (a : Float) (i : ℕ) → (chosen x y m a i).least ≡ cond x a m.least
least_chosen true y m a i = refl
least_chosen false true m a i = refl
least_chosen false false m a i = refl

sign_chosen : (x y : Bool) (m : Minima) (a : Float) (i : ℕ) → (chosen x y m a i).sign ≡ m.sign
sign_chosen true y m a i = refl
sign_chosen false true m a i = refl
sign_chosen false false m a i = refl

-- ---- the same of `seen`

abbrev with_sign : Minima → Float → Minima
with_sign m g = record { least = m.least; second = m.second; place = m.place; sign = g }

module _ (m : Minima) (i : ℕ) (v : Float) where
  kept_seen : Kept m → Kept (seen m i v)
  unfolding seen
  kept_seen k = kept-chosen (lt (magnitude_of v) m.least) (lt (magnitude_of v) m.second) (with_sign m (turned v m.sign)) v i refl refl k

  early-seen : Early m i → Early (seen m i v) (suc i)
  unfolding seen
  early-seen k = early_chosen (lt (magnitude_of v) m.least) (lt (magnitude_of v) m.second) (with_sign m (turned v m.sign)) (magnitude_of v) i k.0

  own-seen : Early m i → other_least i (seen m i v) ≡ m.least
  unfolding seen
  own-seen k = own_chosen (lt (magnitude_of v) m.least) (lt (magnitude_of v) m.second) (eqb i m.place) (with_sign m (turned v m.sign)) (magnitude_of v)
      i refl refl refl k.1

  later-seen : (j : ℕ) → Kept m → j < i → other_least j (seen m i v) ≡ lesser_of (other_least j m) v
  unfolding seen
  later-seen j k h = later-chosen (lt (magnitude_of v) m.least) (lt (magnitude_of v) m.second) (eqb j m.place) (with_sign m (turned v m.sign)) v i j
      refl refl refl k h

  least-seen : (seen m i v).least ≡ lesser_of m.least v
  unfolding seen
  least-seen = least_chosen (lt (magnitude_of v) m.least) (lt (magnitude_of v) m.second) (with_sign m (turned v m.sign)) (magnitude_of v) i

  sign-seen : (seen m i v).sign ≡ turned v m.sign
  unfolding seen
  sign-seen = sign_chosen (lt (magnitude_of v) m.least) (lt (magnitude_of v) m.second) (with_sign m (turned v m.sign)) (magnitude_of v) i

-- ---- over the messages that are left

later_least : (xs : List Float) (m : Minima) (i j : ℕ) → Kept m → j < i → other_least j (minima_from m i xs) ≡ fold_from lesser_of (other_least j m) xs
unfolding minima_from fold_from
later_least [] m i j k h = refl
later_least (v ∷ xs) m i j k h =
    let h1 : j < suc i = omega (arith, h) in
    later_least xs (seen m i v) (suc i) j (kept_seen m i v k) h1 ∙ ap (λ (o : Float). fold_from lesser_of o xs) (later-seen m i v j k h)

sign_from : (xs : List Float) (m : Minima) (i : ℕ) → (minima_from m i xs).sign ≡ fold_from turned_by m.sign xs
unfolding minima_from fold_from
sign_from [] m i = refl
sign_from (v ∷ xs) m i = sign_from xs (seen m i v) (suc i) ∙ ap (λ (g : Float). fold_from turned_by g xs) (sign-seen m i v)

neg_twice : (s : Float) → neg (neg s) ≡ s
unfolding neg
neg_twice nan = refl
neg_twice (inf true) = refl
neg_twice (inf false) = refl
neg_twice (fin true m e) = refl
neg_twice (fin false m e) = refl

turn_twice : (b : Bool) (s : Float) → cond b (neg (cond b (neg s) s)) (cond b (neg s) s) ≡ s
turn_twice true s = neg_twice s
turn_twice false s = refl

turns_swap : (b c : Bool) (s : Float) → cond b (neg (cond c (neg s) s)) (cond c (neg s) s) ≡ cond c (neg (cond b (neg s) s)) (cond b (neg s) s)
turns_swap true true s = refl
turns_swap true false s = refl
turns_swap false true s = refl
turns_swap false false s = refl

-- a sign that is turned by x, before the others or after them
turned_last : (x s : Float) (xs : List Float) → fold_from turned_by (turned x s) xs ≡ turned x (fold_from turned_by s xs)
unfolding fold_from
turned_last x s [] = refl
turned_last x s (y ∷ ys) = ap (λ (g : Float). fold_from turned_by g ys) (turns_swap (lt y zero32) (lt x zero32) s) ∙ turned_last x (turned y s) ys

pub own_sign_out : (x s : Float) (xs : List Float) → turned x (fold_from turned_by (turned x s) xs) ≡ fold_from turned_by s xs
own_sign_out x s xs = rw (turned_last x s xs) (turn_twice (lt x zero32) (fold_from turned_by s xs))

-- ---- the loop of the second engine

-- a turn: f of the others of entry i, of those before it and those after it, goes to its place
pub others_more : (f : List Float → Float) (l a r : List Float) (i : ℕ) → i < length l → length a ≡ length l
    → take i a ++ over_others f (take i l) (drop i l) ≡ r
    → take (i + 1) (set a i (f (take i l ++ drop (i + 1) l))) ++ over_others f (take (i + 1) l) (drop (i + 1) l) ≡ r
unfolding over_others
others_more f l a r i h e k =
    let ha : i < length a = omega (arith, h, e) in
    rw (add-one, take-suc-set a i (f (take i l ++ drop (suc i) l)) ha, append_assoc, take-suc l i nan h) (rw (drop-cons l i nan h) at k)

pub others-done : (f : List Float → Float) (l a r : List Float) (i : ℕ) → length l ≤ i → length a ≡ length l
    → take i a ++ over_others f (take i l) (drop i l) ≡ r → a ≡ r
unfolding over_others
others-done f l a r i h e k =
    let ha : length a ≤ i = omega (arith, h, e) in
    rw (take_all i a ha, drop_of_length-le l h, append-nil) at k

-- ---- the answers

module _ (scale : Float) where
  -- at each entry the answer from its others, those before it folded already
  unfoldable pub answers_from : Float → Float → List Float → List Float
  answers_from least sign [] = []
  answers_from least sign (x ∷ xs) = ((scale ⊗ fold_from turned_by sign xs) ⊗ fold_from lesser_of least xs)
      ∷ answers_from (lesser_of least x) (turned x sign) xs

  pub others-shared : (passed xs : List Float) → over_others (others_answer scale) passed xs ≡ answers_from (least_of passed) (sign_of passed) xs
  unfolding over_others answers_from fold_from
  others-shared passed [] = refl
  others-shared passed (x ∷ xs) =
      rw (
        fold-append lesser_of (inf false) passed xs,
        fold-append turned_by one32 passed xs,
        others-shared (passed ++ (x ∷ [])) xs,
        fold-append lesser_of (inf false) passed (x ∷ []),
        fold-append turned_by one32 passed (x ∷ []),
      )

  kept-answers : (xs : List Float) (m : Minima) (i : ℕ) → Kept m → Early m i → min_answers scale (minima_from m i xs) i xs ≡ answers_from m.least m.sign xs
  unfolding min_answers min_answer minima_from answers_from
  kept-answers [] m i k e = refl
  kept-answers (x ∷ xs) m i k e =
      let h : i < suc i = omega arith in
      let n = seen m i x in
      let least : other_least i (minima_from n (suc i) xs) ≡ fold_from lesser_of m.least xs =
      later_least xs n (suc i) i (kept_seen m i x k) h ∙ ap (λ (o : Float). fold_from lesser_of o xs) (own-seen m i x e) in
      let sign : turned x (minima_from n (suc i) xs).sign ≡ fold_from turned_by m.sign xs =
      ap (turned x) (sign_from xs n (suc i) ∙ ap (λ (g : Float). fold_from turned_by g xs) (sign-seen m i x)) ∙ own_sign_out x m.sign xs in
      rw (least, sign, kept-answers xs n (suc i) (kept_seen m i x k) (early-seen m i x e), least-seen m i x, sign-seen m i x) refl

  -- the law
  pub same-answers : (vs : List Float) → min_sum scale vs ≡ others_sum scale vs
  unfolding min_sum minima_of others_sum fold_from eq lt magnitude_of
  same-answers vs =
      let known : Kept none_seen = ((refl, refl), (refl, refl), refl) in
      kept-answers vs none_seen 0 known (omega arith, λ q. refl) ∙ sym (others-shared [] vs)

-- both rules, at every check
pub both_rules : (scale : Float) (vs : List Float) → (check_step MinSum vs ≡ others_sum one32 vs) × (check_step (ScaledMinSum scale) vs ≡ others_sum scale vs)
unfolding check_step
both_rules scale vs = (same-answers one32 vs, same-answers scale vs)
