-- `lines::frame_lines` meets its contract: a turn writes the line of its frame, which is the first of those that are left. Assumes nothing.
use mathlib.Core.Path.{◌≡◌, sym, ap, ◌∙◌}
use mathlib.Core.List.{List, [], ◌++◌}
use Prim.Native.Nat.{ℕ, ◌+◌, ◌-◌, ◌*◌, ◌≤◌, ◌<◌}
use native.Mathlib.Nat.{suc-mul, zero-mul, sub-zero}
use native.Mathlib.Numerals.{add-one}
use native.Mathlib.Omega.{arith}
use mathlib.Core.Bool.{Bool}
use lib.Ieee.{Float}
use lib.ListN.{length, get_or, take, drop, length-append}
use Rattle.text.proofs.Put.{Left, left-all, left_less, left-none}
use Rattle.batch.specs.Codes.{size_k}
use Rattle.batch.specs.Pairs.{pairs_of, frames_of}
use Rattle.batch.specs.Calls.{Lent, lent}
use Rattle.batch.proofs.Frames.{place-fits}
use Rattle.clean_frames.specs.CleanFrames.{clean_of}
use Rattle.clean_frames.proofs.FrameAt.{bits_at}
use Rattle.one_line.specs.Line.{frame_line}
use Rattle.lines.specs.Lines.{line_at, lines_from}
use Rattle.lines.proofs.Lines.{lines_more, lines_none, line_short, lines_short}
use Rattle.lines.proofs.frame_lines.Goals as goal

-- the whole text has room
module _ (code : ℕ) (fs : List (List Float)) (l : Lent) (n : ℕ) (out : List ℕ) (at : ℕ) (r : at + 127 * n ≤ length out) where
  room : at + length (lines_from (line_at code fs l) 0 n) ≤ length out
  room = omega (arith, lines_short (line_at code fs l) (line_short code fs l) 0 n)

  -- in a turn: what is left to write, with the line of this turn first, which has room
  module _ (now : List ℕ) (next j : ℕ) (h : j < n)
      (all : Left out at (lines_from (line_at code fs l) 0 n) now next (lines_from (line_at code fs l) j (n - j))) where
    left_here : Left out at (lines_from (line_at code fs l) 0 n) now next (line_at code fs l j ++ lines_from (line_at code fs l) (j + 1) (n - (j + 1)))
    left_here = rw (lines_more (line_at code fs l) j n h) at all

    fits : next + length (line_at code fs l j) ≤ length now
    fits =
        let left = left_here in
        omega (arith, left.end, left.size, room, length-append (line_at code fs l j) (lines_from (line_at code fs l) (j + 1) (n - (j + 1))))

-- the line of a frame, as it is written: its bits begin at `from`
line-is : (code : ℕ) (fs : List (List Float)) (l : Lent) (j from k : ℕ) (clean : Bool) → from ≡ j * k → k ≡ size_k code
    → clean ≡ clean_of code fs l.counts l.bits j
    → frame_line j (get_or l.counts j 0) (get_or l.rounds j 0) clean (take (from + k - from) (drop from l.bits)) (get_or l.firsts j 0) ≡ line_at code fs l j
line-is code fs l j from k clean e s c =
    rw (e, c)
    (ap (λ (b : List ℕ). frame_line j (get_or l.counts j 0) (get_or l.rounds j 0) (clean_of code fs l.counts l.bits j) b (get_or l.firsts j 0))
    (bits_at l.bits j k (size_k code) s))

-- the bits of a frame lie within all
front : (j n k K : ℕ) (bits : List ℕ) (from : ℕ) → j < n → from ≡ j * k → length bits ≡ n * K → k ≡ K → from + k ≤ length bits
front j n k K bits from h e b s =
    let all : n * k ≡ n * K = ap (λ (x : ℕ). n * x) s in
    omega (arith, e, b, all, place-fits j n k h)

pub loop-j-init : goal.loop-j-init
loop-j-init c = (sym (zero-mul _), rw sub-zero (left-all _ _ _))

pub overflow_add-to : goal.overflow_add-to
overflow_add-to c =
    let n = length (pairs_of c.args.pairs.now) in
    let place : c.loop-j.j < n = omega (arith, c.requires.counts_len.0) in
    let end = front c.loop-j.j n c.message_bits-k.result (size_k c.args.code) c.args.bits.now c.loop-j.from place c.loop-j.invariant.0 c.requires.counts_len.1
    c.message_bits-k.ensures in
    omega (arith, end)

pub overflow_cast-j : goal.overflow_cast-j
overflow_cast-j c = omega (arith, c.requires.counts_len.0, c.requires.pairs_len_bound)

pub bounds-rounds-j : goal.bounds-rounds-j
bounds-rounds-j c = omega (arith, c.requires.counts_len.0, c.requires.rounds_len.0)

pub bounds-firsts-j : goal.bounds-firsts-j
bounds-firsts-j c = omega (arith, c.requires.counts_len.0, c.requires.rounds_len.1)

pub frame_line-next-requires : goal.frame_line-next-requires
frame_line-next-requires c =
    let a = c.args in
    let j = c.loop-j.j in
    let n = length (pairs_of a.pairs.now) in
    let l = lent a.bits.now a.counts.now a.rounds.now a.firsts.now [] in
    let fs = frames_of a.values.now (pairs_of a.pairs.now) in
    let place : j < n = omega (arith, c.requires.counts_len.0) in
    let same =
    line-is a.code fs l j c.loop-j.from c.message_bits-k.result c.clean_at-clean.result c.loop-j.invariant.0 c.message_bits-k.ensures
    c.clean_at-clean.ensures in
    let free = fits a.code fs l n a.out.now a.at c.requires.pairs_in_bounds c.loop-j.out c.loop-j.next j place c.loop-j.invariant.1 in
    omega (arith, ap length same, free)

pub loop-j-preserved : goal.loop-j-preserved
loop-j-preserved c =
    let a = c.args in
    let j = c.loop-j.j in
    let k = c.message_bits-k.result in
    let n = length (pairs_of a.pairs.now) in
    let l = lent a.bits.now a.counts.now a.rounds.now a.firsts.now [] in
    let fs = frames_of a.values.now (pairs_of a.pairs.now) in
    let place : j < n = omega (arith, c.requires.counts_len.0) in
    let same = line-is a.code fs l j c.loop-j.from k c.clean_at-clean.result c.loop-j.invariant.0 c.message_bits-k.ensures c.clean_at-clean.ensures in
    let next : (j + 1) * k ≡ j * k + k = ap (λ (x : ℕ). x * k) (add-one j) ∙ suc-mul j k in
    let here = rw same at c.frame_line-next.ensures in (
      omega (arith, c.loop-j.invariant.0, next),
      left_less _ _ _ _ _ _ _ _ _ (room a.code fs l n a.out.now a.at c.requires.pairs_in_bounds)
          (left_here a.code fs l n a.out.now a.at c.requires.pairs_in_bounds c.loop-j.out c.loop-j.next j place c.loop-j.invariant.1) here,
    )

pub returns : goal.returns
returns c =
    let a = c.args in
    let n = length (pairs_of a.pairs.now) in
    let l = lent a.bits.now a.counts.now a.rounds.now a.firsts.now [] in
    let fs = frames_of a.values.now (pairs_of a.pairs.now) in
    let end : n ≤ c.loop-j.j = omega (arith, c.loop-j-test.false, c.requires.counts_len.0) in
    left-none _ _ _ _ _ (rw (lines_none (line_at a.code fs l) c.loop-j.j n end) at c.loop-j.invariant.1)
