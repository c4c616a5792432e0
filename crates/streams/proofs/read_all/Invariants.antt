-- What was read lies within the room, and is what the reader gave. Each turn that goes on reads a byte or is one try more.
use Rattle.std.proofs.Common.{length, ◌-◌, ◌≤◌, take, ◌≡◌, ◌+◌}
use Rattle.std.specs.Io.KnownBytes.{Consumes}
use Rattle.streams.proofs.read_all.Given as goal

abbrev pub invariant-loop-n : goal.invariant-loop-n
invariant-loop-n g l =
    (l.n ≤ length l.input)
    × (length l.input ≡ length l.initial.input)
    × Consumes (g.R.Read.remaining l.initial.reader) (g.R.Read.remaining l.reader) (take l.n l.input)

abbrev pub decreases-loop-n : goal.decreases-loop-n
decreases-loop-n g l = length l.input - l.n + l.tries
