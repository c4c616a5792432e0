-- `lines::frame_lines`, the invariant: with the lines that are left put where the loop stands, the buffer holds them all. Assumes nothing.
use Rattle.std.proofs.Common.{◌≡◌, ◌-◌, ◌*◌, [], length}
use Rattle.text.proofs.Put.{Left}
use Rattle.batch.specs.Pairs.{pairs_of, frames_of}
use Rattle.batch.specs.Calls.{lent}
use Rattle.lines.specs.Lines.{line_at, lines_from}
use Rattle.lines.proofs.frame_lines.Given as goal

abbrev pub invariant-loop-j : goal.invariant-loop-j
invariant-loop-j l =
    let n = length (pairs_of l.pairs) in
    let line = line_at l.code (frames_of l.values (pairs_of l.pairs)) (lent l.bits l.counts l.rounds l.firsts []) in
    (l.from ≡ l.j * l.k) × Left l.initial.out l.at (lines_from line 0 n) l.out l.next (lines_from line l.j (n - l.j))
