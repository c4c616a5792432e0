-- `batch_figures::add_frames` meets its contract. The invariant: with the frames that are left, the sum so far comes to the sum of all.
use mathlib.Core.Path.{◌≡◌}
use Prim.Native.Nat.{◌-◌}
use lib.ListN.{length}
use Rattle.batch.specs.Pairs.{pairs_of}
use Rattle.figures.specs.Totals.{summed_of}
use Rattle.batch_figures.specs.Results.{results, frame_at, frames_from}
use Rattle.batch_figures.specs.Steps.{with_frames}
use Rattle.batch_figures.proofs.add_frames.Given as goal

abbrev pub invariant-loop-j : goal.invariant-loop-j
invariant-loop-j l = let n = length (pairs_of l.pairs) in
    let frame = frame_at (results l.code l.values (pairs_of l.pairs) l.bits l.counts l.rounds) in
    with_frames (summed_of l.sum) (frames_from frame l.j (n - l.j)) ≡ with_frames (summed_of l.initial.sum) (frames_from frame 0 n)
