-- `ldpc::first_row` meets its contract. The invariant: what is first among the rows that are left is first among all. Assumes nothing.
use Rattle.std.proofs.Common.{◌+◌, ◌*◌}
use Rattle.lists.proofs.Below.{below-part}
use Rattle.tanner.proofs.Steps.{first-here, first-later, first_nowhere}
use Rattle.ldpc.proofs.Sevens.{rows_more, rows_done}
use Rattle.ldpc.proofs.first_row.Goals as goal

pub xor_row-requires : goal.xor_row-requires
xor_row-requires c = below-part _ _ (c.loop-c.c * 7) (c.loop-c.c * 7 + 7) c.requires.low

pub returns-then-xor_row-mask-ne0 : goal.returns-then-xor_row-mask-ne0
returns-then-xor_row-mask-ne0 c = let more = rows_more 83 c.loop-c.c c.args.table.now c.loop-c-test.true in
    first-here _ _ _ _ _ _ _ _ more c.xor_row.ensures c.loop-c.invariant c.if-xor_row-mask-ne0.true

pub loop-c-preserved : goal.loop-c-preserved
loop-c-preserved c = let more = rows_more 83 c.loop-c.c c.args.table.now c.loop-c-test.true in
    first-later _ _ _ _ _ _ _ _ more c.xor_row.ensures c.loop-c.invariant c.if-xor_row-mask-ne0.false

pub returns : goal.returns
returns c = first_nowhere _ _ _ _ _ (rows_done 83 c.loop-c.c c.args.table.now c.loop-c-test.false) c.loop-c.invariant
