-- Min-sum without a place: the answers from the two least magnitudes and the sign of a check's messages are min-sum's, whatever ties, NaN, infinities and
-- zeros there are.
-- The own entry is the least one exactly where its magnitude equals the least: if two tie, the second is the same float, and a NaN equals nothing.
-- By one induction over the messages: what is picked for an entry that was passed is the least magnitude of its others so far. Assumes nothing.
use mathlib.Core.Bool.{Bool, true, false, cond}
use mathlib.Core.Path.{◌≡◌, refl, sym, ap, ◌∙◌}
use mathlib.Core.List.{List, [], ◌∷◌, map}
use Prim.Native.Nat.{ℕ}
use native.Mathlib.Omega.{arith}
use lib.Dec.{T}
use lib.Ieee.{Float, binary32, fits, lt, eq}
use Rattle.softmath.specs.Single.{fold_from}
use Rattle.softmath.specs.Functions.{magnitude_of}
use Rattle.softmath.specs.CheckNode.{turned, min_sum}
use Rattle.by_others.specs.Others.{lesser_of, turned_by, others_sum}
use Rattle.by_others.proofs.ByOthers.{answers_from, others-shared, own_sign_out, same-answers}
use Rattle.slot_minima.specs.declared.Seen.{Seen}
use Rattle.slot_minima.specs.Minima.{Fit, more, fresh, least_with, second_with, noted, noted_all, pick, answer_to}
use Rattle.slot_minima.proofs.Magnitudes.{Mag, infinite, Sized, unknown, known, sized, equal_same}
use Rattle.slot_minima.proofs.Magnitudes.{level_same, equal_self, not_self, not_both, below_upper, lower_below, under_infinity, not_negative}

true-false : {A : Type 0} (b : Bool) → b ≡ true → b ≡ false → A
true-false b p q =
    let z : ◌≡◌ {A = Bool} true false = sym p ∙ q in
    let n : ◌≡◌ {A = ℕ} 0 1 = cc in absurd (omega arith)

-- ---- what is picked

module _ (l s : Float) (ml : Mag l) (ms : Mag s) where
  pick-own : pick true l s ≡ cond (lt l s) s l
  pick-own = rw (under_infinity s ms) refl

  pick_other : pick false l s ≡ l
  pick_other = rw (not_negative s ms, not_negative l ml) refl

-- x, y, z: what the tests answered
module _ (a l s : Float) (ml : Mag l) (ms : Mag s) where
  -- at its own turn an entry's others are those before
  own-known : (x y z : Bool) → Mag a → lt a l ≡ x → lt a s ≡ y → eq a (cond x a l) ≡ z → pick z (cond x a l) (cond x l (cond y a s)) ≡ l
  own-known true y true ma qx qy qz = rw (pick-own a l ma ml, qx) refl
  own-known true y false ma qx qy qz = true-false (eq a a) (equal_self a ma) qz
  own-known false true true ma qx qy qz = rw (pick-own l a ml ma, equal_same a l ma ml qz, not_self l (known ml)) refl
  own-known false true false ma qx qy qz = pick_other l a ml ma
  own-known false false true ma qx qy qz = rw (pick-own l s ml ms, ← equal_same a l ma ml qz, qy) refl
  own-known false false false ma qx qy qz = pick_other l s ml ms

  -- later the new magnitude a is one of the others of an entry of magnitude b
  module _ (b : Float) (mb : Mag b) (order : lt s l ≡ false) (passed : lt b l ≡ false) where
    either-below : (w : Bool) → lt a l ≡ true → Mag a → least_with a (cond w s l) ≡ a
    either-below true q ma = rw (below_upper a l s ma ml ms q order) refl
    either-below false q ma = rw q refl

    either-not : (w : Bool) → lt a l ≡ false → lt a s ≡ false → least_with a (cond w s l) ≡ cond w s l
    either-not true q r = rw r refl
    either-not false q r = rw q refl

    tie : (w : Bool) → Mag a → lt l a ≡ w → lt a l ≡ false → cond w a l ≡ a
    tie true ma q r = refl
    tie false ma q r = level_same l a ml ma q r

    later-known : (x y z n : Bool) → Mag a → lt a l ≡ x → lt a s ≡ y → eq b l ≡ z → eq b (cond x a l) ≡ n
        → pick n (cond x a l) (cond x l (cond y a s)) ≡ least_with a (pick z l s)
    later-known true y z true ma qx qy qz qn = true-false (lt b l) (rw (equal_same b a mb ma qn) qx) passed
    later-known true y true false ma qx qy qz qn = rw (pick-own l s ml ms, either-below (lt l s) qx ma) (pick_other a l ma ml)
    later-known true y false false ma qx qy qz qn = rw (pick_other l s ml ms, qx) (pick_other a l ma ml)
    later-known false true true true ma qx qy qz qn = rw (pick-own l s ml ms, pick-own l a ml ma, lower_below l a s ml ma ms qx qy, qy)
        (tie (lt l a) ma refl qx)
    later-known false true false false ma qx qy qz qn = rw (pick_other l s ml ms, pick_other l a ml ma, qx) refl
    later-known false false true true ma qx qy qz qn = rw (pick-own l s ml ms, either-not (lt l s) qx qy) refl
    later-known false false false false ma qx qy qz qn = rw (pick_other l s ml ms, qx) refl
    later-known false y true false ma qx qy qz qn = true-false (eq b l) qz qn
    later-known false y false true ma qx qy qz qn = true-false (eq b l) qn qz

-- the same where either may be a NaN
own_picked : (a l s : Float) → Sized a → Mag l → Mag s → pick (eq a (least_with a l)) (least_with a l) (second_with a l s) ≡ l
unfolding lt eq
own_picked _ l s unknown ml ms = pick_other l s ml ms
own_picked a l s (known ma) ml ms = own-known a l s ml ms (lt a l) (lt a s) (eq a (least_with a l)) ma refl refl refl

least_mag : (a l : Float) → Sized a → Mag l → Mag (least_with a l)
unfolding lt
least_mag _ l unknown ml = ml
least_mag a l (known ma) ml = choose (lt a l)
  where
    choose : (x : Bool) → Mag (cond x a l)
    choose true = ma
    choose false = ml

second_mag : (a l s : Float) → Sized a → Mag l → Mag s → Mag (second_with a l s)
unfolding lt
second_mag _ l s unknown ml ms = ms
second_mag a l s (known ma) ml ms = choose (lt a l) (lt a s)
  where
    choose : (x y : Bool) → Mag (cond x l (cond y a s))
    choose true y = ml
    choose false true = ma
    choose false false = ms

later_picked : (a b l s : Float) → Sized a → Sized b → Mag l → Mag s → lt s l ≡ false → lt b l ≡ false
    → pick (eq b (least_with a l)) (least_with a l) (second_with a l s) ≡ least_with a (pick (eq b l) l s)
unfolding lt eq
later_picked _ b l s unknown zb ml ms order passed = refl
later_picked a _ l s (known ma) unknown ml ms order passed =
    pick_other (least_with a l) (second_with a l s) (least_mag a l (known ma) ml) (second_mag a l s (known ma) ml ms)
    ∙ ap (least_with a) (sym (pick_other l s ml ms))
later_picked a b l s (known ma) (known mb) ml ms order passed =
    later-known a l s ml ms b mb order passed (lt a l) (lt a s) (eq b l) (eq b (least_with a l)) ma refl refl refl refl

-- ---- what is kept: two magnitudes, the second not below the least; no entry that was passed is below the least

abbrev Kept : Seen → Type 0
Kept t = Mag t.least × Mag t.second × (lt t.second t.least ≡ false)

order_known : (a l s : Float) (x y : Bool) → Mag a → Mag l → lt a l ≡ x → lt a s ≡ y → lt s l ≡ false → lt (cond x l (cond y a s)) (cond x a l) ≡ false
order_known a l s true y ma ml qx qy order = not_both a l ma ml qx
order_known a l s false true ma ml qx qy order = qx
order_known a l s false false ma ml qx qy order = order

order_with : (a l s : Float) → Sized a → Mag l → lt s l ≡ false → lt (second_with a l s) (least_with a l) ≡ false
unfolding lt
order_with _ l s unknown ml order = order
order_with a l s (known ma) ml order = order_known a l s (lt a l) (lt a s) ma ml refl refl order

passed_own : (a l : Float) (x : Bool) → Sized a → lt a l ≡ x → lt a (cond x a l) ≡ false
passed_own a l true za q = not_self a za
passed_own a l false za q = q

passed_known : (a b l : Float) (x w : Bool) → Mag a → Mag b → Mag l → lt a l ≡ x → lt b (cond x a l) ≡ w → lt b l ≡ false → w ≡ false
passed_known a b l x false ma mb ml q r passed = refl
passed_known a b l true true ma mb ml q r passed = true-false (lt b l) (below_upper b a l mb ma ml r (not_both a l ma ml q)) passed
passed_known a b l false true ma mb ml q r passed = true-false (lt b l) r passed

passed_later : (a b l : Float) → Sized a → Sized b → Mag l → lt b l ≡ false → lt b (least_with a l) ≡ false
unfolding lt
passed_later _ b l unknown zb ml passed = passed
passed_later a _ l (known ma) unknown ml passed = refl
passed_later a b l (known ma) (known mb) ml passed = passed_known a b l (lt a l) (lt b (least_with a l)) ma mb ml refl refl passed

module _ (t : Seen) (v : Float) (fit : T (fits binary32 v)) (k : Kept t) where
  kept-noted : Kept (noted t v)
  unfolding noted
  kept-noted =
      let z = sized v fit in
      (least_mag _ _ z k.0, second_mag _ _ _ z k.0 k.1, order_with _ _ _ z k.0 k.2)

-- ---- over the messages that are left

-- what is picked for a magnitude
abbrev pick_at : Float → Seen → Float
pick_at b t = pick (eq b t.least) t.least t.second

later-all : (vs : List Float) (t : Seen) (b : Float) → Fit vs → Kept t → Sized b → lt b t.least ≡ false
    → pick_at b (noted_all t vs) ≡ fold_from lesser_of (pick_at b t) vs
unfolding noted_all fold_from noted
later-all [] t b f k zb passed = refl
later-all (v ∷ vs) t b (more fit f) k zb passed =
    let zv = sized v fit in
    later-all vs (noted t v) b f (kept-noted t v fit k) zb (passed_later _ _ _ zv zb k.0 passed)
    ∙ ap (λ (o : Float). fold_from lesser_of o vs) (later_picked _ _ _ _ zv zb k.0 k.1 k.2 passed)

sign_all : (vs : List Float) (t : Seen) → (noted_all t vs).sign ≡ fold_from turned_by t.sign vs
unfolding noted_all fold_from noted
sign_all [] t = refl
sign_all (v ∷ vs) t = sign_all vs (noted t v)

-- ---- the answers

module _ (scale : Float) where
  answers-all : (vs : List Float) (t : Seen) → Fit vs → Kept t → map (answer_to scale (noted_all t vs)) vs ≡ answers_from scale t.least t.sign vs
  unfolding noted_all noted answer_to answers_from
  answers-all [] t f k = refl
  answers-all (v ∷ vs) t (more fit f) k =
      let n = noted t v in
      let zv = sized v fit in
      let kn = kept-noted t v fit k in
      let least : pick_at (magnitude_of v) (noted_all n vs) ≡ fold_from lesser_of t.least vs =
      later-all vs n (magnitude_of v) f kn zv (passed_own _ _ _ zv refl) ∙ ap (λ (o : Float). fold_from lesser_of o vs) (own_picked _ _ _ zv k.0 k.1) in
      let sign : turned v (noted_all n vs).sign ≡ fold_from turned_by t.sign vs = ap (turned v) (sign_all vs n) ∙ own_sign_out v t.sign vs in
      rw (least, sign, answers-all vs n f kn) refl

  -- the law
  pub by-columns : (vs : List Float) → Fit vs → map (answer_to scale (noted_all fresh vs)) vs ≡ min_sum scale vs
  unfolding others_sum fold_from lt
  by-columns vs f = answers-all vs fresh f (infinite, infinite, refl) ∙ sym (same-answers scale vs ∙ others-shared scale [] vs)
