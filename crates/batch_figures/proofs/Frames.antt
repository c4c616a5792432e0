-- The sum frame by frame is the sum with the frames' totals: sums are associative, and what passed its limit stays past it. By induction over the frames.
use mathlib.Core.Path.{◌≡◌, refl, sym, ap, ◌∙◌}
use mathlib.Core.Bool.{Bool, true, false}
use mathlib.Core.List.{List, [], ◌∷◌}
use Prim.Native.Nat.{ℕ, suc, ◌+◌, ◌-◌, ◌≤◌, ◌<◌}
use native.Mathlib.Numerals.{add-one}
use native.Mathlib.Omega.{arith}
use Rattle.refusal.specs.Outcome.{Outcome, accepted, refused, judged}
use Rattle.figures.specs.Totals.{Frame, totals_of, sums, join_refusals, nothing_yet}
use Rattle.figures.specs.declared.Totals.{Totals}
use Rattle.figures.proofs.Sums.{nothing-added, joined_further}
use Rattle.figures.proofs.Limits.{past, judged_past, past_more, Within, alone_within, sums_within}
use Rattle.batch_figures.specs.Results.{frames_from}
use Rattle.batch_figures.specs.Steps.{of_the, with_frame, with_frames}

-- ---- a turn

pub frames_more : (frame : ℕ → Frame) (j n : ℕ) → j < n → frames_from frame j (n - j) ≡ frame j ∷ frames_from frame (j + 1) (n - (j + 1))
unfolding frames_from
frames_more frame j n h =
    let e : n - j ≡ suc (n - (j + 1)) = omega arith in
    rw (e, add-one j)

pub frames-none : (frame : ℕ → Frame) (j n : ℕ) → n ≤ j → frames_from frame j (n - j) ≡ []
unfolding frames_from
frames-none frame j n h =
    let e : n - j ≡ 0 = omega arith in
    rw e

-- ---- the whole

refused_stays : (k : ℕ) (fs : List Frame) → with_frames (refused k) fs ≡ refused k
unfolding with_frames with_frame
refused_stays k [] = refl
refused_stays k (f ∷ fs) = refused_stays k fs

module _ (t x : Totals) (fs : List Frame) where
  abbrev all : Totals
  all = sums x (totals_of fs)

  one_more : (b : Bool) → past t x ≡ b
      → (Within (sums t x) → with_frames (accepted (sums t x)) fs ≡ judged (join_refusals (sums t x) (totals_of fs)) (sums (sums t x) (totals_of fs)))
      → with_frames (judged (join_refusals t x) (sums t x)) fs ≡ judged (join_refusals t all) (sums t all)
  one_more true e rest =
      let none : judged (join_refusals t x) (sums t x) ≡ refused 14 = judged_past t x (sums t x) ∙ rw e in
      let last : judged (join_refusals t all) (sums t all) ≡ refused 14 = judged_past t all (sums t all) ∙ rw (past_more t x (totals_of fs) e) in
      ap (λ (s : Outcome Totals). with_frames s fs) none ∙ refused_stays 14 fs ∙ sym last
  one_more false e rest =
      let made : judged (join_refusals t x) (sums t x) ≡ accepted (sums t x) = judged_past t x (sums t x) ∙ rw e in
      ap (λ (s : Outcome Totals). with_frames s fs) made ∙ rest (sums_within t x e) ∙ joined_further t x (totals_of fs)

pub frames-added : (t : Totals) (fs : List Frame) → Within t → with_frames (accepted t) fs ≡ judged (join_refusals t (totals_of fs)) (sums t (totals_of fs))
unfolding with_frames with_frame totals_of
frames-added t [] w = sym (judged_past t nothing_yet (sums t nothing_yet) ∙ rw (alone_within t w, nothing-added t))
frames-added t (f ∷ fs) w = one_more t (of_the f) fs (past t (of_the f)) refl (frames-added (sums t (of_the f)) fs)
