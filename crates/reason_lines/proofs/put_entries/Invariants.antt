-- `reason_lines::put_entries` meets its contract. The invariant: with the entries that are left put where the loop stands, the buffer holds all of them.
-- Assumes nothing.
use Rattle.std.proofs.Common.{drop}
use Rattle.text.proofs.Put.{Left}
use Rattle.reason_lines.specs.Lines.{entries}
use Rattle.reason_lines.proofs.put_entries.Given as goal

abbrev pub invariant-loop-p : goal.invariant-loop-p
invariant-loop-p l = Left l.initial.out l.at (entries l.positions l.word) l.out l.next (entries (drop l.p-index l.positions) l.word)
