-- `columns::mark_together` meets its contract. The invariant: the columns passed are marked where they hold the row, and the others are left.
use Rattle.std.proofs.Common.{◌≡◌, ◌*◌, ◌≤◌, length, take, drop}
use Rattle.std.specs.Slice.Iter.{chunks_exact_rest, chunks_exact_size}
use Rattle.columns.specs.Tables.{columns_in}
use Rattle.columns.proofs.Marks.{Joined}
use Rattle.columns.proofs.mark_together.Given as goal

abbrev pub invariant-loop-column : goal.invariant-loop-column
invariant-loop-column l =
    let k = length l.yielded in
    record {
      few : k ≤ l.n;
      size : chunks_exact_size l.column-iterator ≡ 3;
      left : chunks_exact_rest l.column-iterator ≡ drop (3 * k) (take (3 * l.n) l.rows);
      marked : Joined (columns_in l.rows k) l.q l.initial.marks l.marks;
    }
