-- `batch_figures::add_frames` meets its contract. The invariant: with the frames that are left, the sum so far comes to the sum of all.
use mathlib.Core.Path.{◌≡◌, ap, ◌∙◌}
use Prim.Native.Nat.{◌+◌, ◌-◌, ◌≤◌, ◌<◌}
use native.Mathlib.Nat.{sub-zero}
use native.Mathlib.Omega.{arith}
use lib.ListN.{length, get_or}
use Rattle.refusal.specs.Outcome.{Outcome}
use Rattle.batch.specs.Pairs.{pairs_of}
use Rattle.figures.specs.Totals.{Frame, summed_of}
use Rattle.figures.specs.declared.Totals.{Totals}
use Rattle.figures.proofs.Limits.{Within}
use Rattle.batch_figures.specs.Results.{results, frame_at, frames_from, batch_frames}
use Rattle.batch_figures.specs.Steps.{with_frame, with_frames}
use Rattle.batch_figures.proofs.Frames.{frames_more, frames-none, frames-added}
use Rattle.batch_figures.proofs.add_frames.Goals as goal

pub loop-j-init : goal.loop-j-init
loop-j-init c = rw sub-zero

-- in a turn there is a frame at place j
pub clean_at-clean-requires : goal.clean_at-clean-requires
clean_at-clean-requires c =
    let a = c.args in
    let many = length (pairs_of a.pairs.now) in
    let place : c.loop-j.j < many = omega (arith, c.loop-j-test.true, c.requires.counts_len.0) in
    record { all_within = c.requires.all_within; pairs_len_bound = c.requires.pairs_len_bound; counts_len = c.requires.counts_len; j_in_bounds = place }

pub bounds-rounds-j : goal.bounds-rounds-j
bounds-rounds-j c =
    let a = c.args in
    let many = length (pairs_of a.pairs.now) in
    let place : c.loop-j.j < many = omega (arith, c.loop-j-test.true, c.requires.counts_len.0) in
    omega (arith, place, c.requires.rounds_len)

-- the frame that is added is the one at that place
pub loop-j-preserved : goal.loop-j-preserved
unfolding with_frames
loop-j-preserved c =
    let a = c.args in
    let many = length (pairs_of a.pairs.now) in
    let place : c.loop-j.j < many = omega (arith, c.loop-j-test.true, c.requires.counts_len.0) in
    let handed = results a.code a.values.now (pairs_of a.pairs.now) a.bits.now a.counts.now a.rounds.now in
    let added : Frame = record { count = get_or handed.counts c.loop-j.j 0; rounds = get_or handed.rounds c.loop-j.j 0; clean = c.clean_at-clean.result } in
    let same : ◌≡◌ {A = Frame} added (frame_at handed c.loop-j.j) = rw c.clean_at-clean.ensures in
    let rest = frames_from (frame_at handed) (c.loop-j.j + 1) (many - (c.loop-j.j + 1)) in
    let one = c.with_frame-sum.ensures ∙ ap (with_frame (summed_of c.loop-j.sum)) same in
    let more = rw (frames_more (frame_at handed) c.loop-j.j many place) at c.loop-j.invariant in
    ap (λ (s : Outcome Totals). with_frames s rest) one ∙ more

-- what the total's fields hold at most: they were given so
pub returns : goal.returns
unfolding with_frames batch_frames
returns c =
    let a = c.args in
    let many = length (pairs_of a.pairs.now) in
    let handed = results a.code a.values.now (pairs_of a.pairs.now) a.bits.now a.counts.now a.rounds.now in
    let within : Within a.total = record { frames = omega arith; clean = omega arith; counts = omega arith; rounds = omega arith } in
    let end : many ≤ c.loop-j.j = omega (arith, c.loop-j-test.false, c.requires.counts_len.0) in
    rw (frames-none (frame_at handed) c.loop-j.j many end) at c.loop-j.invariant
    ∙ frames-added a.total (frames_from (frame_at handed) 0 many) within
