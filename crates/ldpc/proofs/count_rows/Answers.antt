-- `ldpc::count_rows` meets its contract. The invariant: what is counted so far is the count of the rows so far. Assumes nothing.
use Rattle.std.proofs.Common.{◌+◌, ◌*◌, arith}
use Rattle.lists.proofs.Below.{below-part}
use Rattle.ldpc.proofs.Sevens.{rows_few, row-counted, row_passed}
use Rattle.ldpc.proofs.count_rows.Goals.{then-xor_row-mask-ne0, else-xor_row-mask-ne0}
use Rattle.ldpc.proofs.count_rows.Goals as goal

pub xor_row-requires : goal.xor_row-requires
xor_row-requires c = below-part _ _ (c.loop-c.c * 7) (c.loop-c.c * 7 + 7) c.requires.rows.low

pub overflow_add-count : goal.overflow_add-count
overflow_add-count c = omega (arith, c.loop-c.invariant, rows_few c.args.mask c.args.padded.now c.loop-c.c c.args.table.now)

pub loop-c-preserved : goal.loop-c-preserved
loop-c-preserved c = elim c.if-xor_row-mask-ne0.branch [
  | then-xor_row-mask-ne0 w ↦ rw w.count-is (row-counted _ _ _ _ _ _ c.xor_row.ensures c.loop-c.invariant w.if-xor_row-mask-ne0.true)
  | else-xor_row-mask-ne0 w ↦ rw w.count-is (row_passed _ _ _ _ _ _ c.xor_row.ensures c.loop-c.invariant w.if-xor_row-mask-ne0.false)
]
