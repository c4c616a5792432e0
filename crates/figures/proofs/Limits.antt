-- Which totals have no sum: the four tests as one. What passes a limit still passes it with more added; what passes none is within all. By cases on the tests.
use mathlib.Core.Path.{◌≡◌, refl, ◌∙◌}
use mathlib.Core.Bool.{Bool, true, false, cond, ◌||◌}
use mathlib.Core.List.{[], ◌∷◌}
use Prim.Native.Nat.{ℕ, ◌+◌, ◌≤◌}
use native.Mathlib.Omega.{arith}
use borrow.Author.Tests.{lt-ltb, le-ltb, ltb-true, ltb-false}
use Rattle.refusal.specs.Outcome.{accepted, refused, judged, ◌when◌}
use Rattle.refusal.proofs.Judged.{verdict, nothing, passed-by}
use Rattle.figures.specs.Totals.{passed, join_refusals, sums, nothing_yet}
use Rattle.figures.specs.declared.Totals.{Totals}

-- whether one of the four sums passes its limit
abbrev pub past : Totals → Totals → Bool
past a b =
    passed a.frames b.frames 4294967295
    || (passed a.clean b.clean 18446744073709551615
    || (passed a.counts b.counts 18446744073709551615 || passed a.rounds b.rounds 18446744073709551615))

pub judged_past : {A : Type 0} (a b : Totals) (t : A) → judged (join_refusals a b) t ≡ cond (past a b) (refused 14) (accepted t)
judged_past {A} a b t =
    by (passed a.frames b.frames _) (passed a.clean b.clean _) (passed a.counts b.counts _) (passed a.rounds b.rounds _)
  where
    by : (p q r s : Bool) → judged ((14 when p) ∷ (14 when q) ∷ (14 when r) ∷ (14 when s) ∷ []) t ≡ cond (p || (q || (r || s))) (refused 14) (accepted t)
    by true q r s = refl
    by false true r s = refl
    by false false true s = refl
    by false false false true = refl
    by false false false false = refl

-- ---- with more added

or_more : (p q p' q' : Bool) → (p ≡ true → p' ≡ true) → (q ≡ true → q' ≡ true) → (p || q) ≡ true → (p' || q') ≡ true
or_more true q p' q' f g h = rw (f refl)
or_more false q true q' f g h = refl
or_more false q false q' f g h = g h

passed_more : (a b c limit : ℕ) → passed a b limit ≡ true → passed a (b + c) limit ≡ true
passed_more a b c limit h = lt-ltb limit (a + (b + c)) (omega (arith, ltb-true limit (a + b) h))

pub past_more : (a b c : Totals) → past a b ≡ true → past a (sums b c) ≡ true
past_more a b c =
    or_more _ _ _ _ (passed_more a.frames b.frames c.frames _)
    (or_more _ _ _ _ (passed_more a.clean b.clean c.clean _)
    (or_more _ _ _ _ (passed_more a.counts b.counts c.counts _) (passed_more a.rounds b.rounds c.rounds _)))

-- ---- within the limits

pub record Within (t : Totals) : Type 0 where
  pub frames : t.frames ≤ 4294967295
  pub clean : t.clean ≤ 18446744073709551615
  pub counts : t.counts ≤ 18446744073709551615
  pub rounds : t.rounds ≤ 18446744073709551615

-- a total alone, and a sum that is made
pub alone_within : (t : Totals) → Within t → past t nothing_yet ≡ false
alone_within t w =
    let fits : (a limit : ℕ) → a ≤ limit → passed a 0 limit ≡ false = λ a limit h. le-ltb limit (a + 0) (omega arith) in
    rw (fits t.frames _ w.frames, fits t.clean _ w.clean, fits t.counts _ w.counts, fits t.rounds _ w.rounds)

pub sums_within : (a b : Totals) → past a b ≡ false → Within (sums a b)
sums_within a b h =
    let none : verdict (join_refusals a b) ≡ nothing = judged_past a b tt ∙ rw h in
    let f = passed-by (passed a.frames b.frames 4294967295) 14 _ none in
    let c = passed-by (passed a.clean b.clean 18446744073709551615) 14 _ f.others in
    let s = passed-by (passed a.counts b.counts 18446744073709551615) 14 _ c.others in
    let r = passed-by (passed a.rounds b.rounds 18446744073709551615) 14 _ s.others in
    record {
      frames = ltb-false 4294967295 (a.frames + b.frames) f.not-held;
      clean = ltb-false 18446744073709551615 (a.clean + b.clean) c.not-held;
      counts = ltb-false 18446744073709551615 (a.counts + b.counts) s.not-held;
      rounds = ltb-false 18446744073709551615 (a.rounds + b.rounds) r.not-held;
    }
