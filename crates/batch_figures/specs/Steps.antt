-- The sum frame by frame, as the loop makes it. No promise to a customer: `proofs/Frames.antt` carries it to `Results.antt`.
use Rattle.std.specs.Prelude.{List, [], ◌∷◌}
use Rattle.refusal.specs.Outcome.{Outcome, accepted, refused, judged}
use Rattle.figures.specs.Totals.{Frame, of_frame, sums, join_refusals}
use Rattle.figures.specs.declared.Totals.{Totals}

-- what a frame adds
abbrev pub of_the : Frame → Totals
of_the f = of_frame f.count f.rounds f.clean

-- with one frame more; a sum that passed its limit stays refused
unfoldable pub with_frame : Outcome Totals → Frame → Outcome Totals
with_frame (accepted t) f = judged (join_refusals t (of_the f)) (sums t (of_the f))
with_frame (refused k) f = refused k

unfoldable pub with_frames : Outcome Totals → List Frame → Outcome Totals
with_frames s [] = s
with_frames s (f ∷ fs) = with_frames (with_frame s f) fs
