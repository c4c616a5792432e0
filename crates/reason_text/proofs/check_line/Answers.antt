-- `reason_text::check_line` meets its contract, code by code: the code's tables hold its checks. Assumes nothing.
use Rattle.n512r12.proofs.Tables.{check_starts0, check_bits0}
use Rattle.n576r23.proofs.Tables.{check_starts1, check_bits1}
use Rattle.n512r34.proofs.Tables.{check_starts2, check_bits2}
use Rattle.code174.proofs.Arrays.{check_start, check_bits}
use Rattle.reason_text.proofs.Tables.{tables0, tables1, tables2, tables3, asks, gives}
use Rattle.reason_text.proofs.check_line.Goals as goal

pub check_over-requires : goal.check_over-requires
unfolding check_starts0 check_bits0
check_over-requires c =
    let wide = rw c.in-N512R12.is at c.requires.word_len in
    let here = rw c.in-N512R12.is at c.requires.c_in_bounds in
    let all = asks tables0 c.args.c c.args.word.now wide here _ c.requires.in_bounds in
    record { flat_checks = all.0; c_in_bounds = all.1.0; c_in_bounds_2 = all.1.1 }

pub returns-in-N512R12 : goal.returns-in-N512R12
unfolding check_starts0 check_bits0
returns-in-N512R12 c = rw c.in-N512R12.is (gives tables0 c.args.c c.args.word.now c.check_over.ensures)

pub check_over-requires-in-N576R23 : goal.check_over-requires-in-N576R23
unfolding check_starts1 check_bits1
check_over-requires-in-N576R23 c =
    let wide = rw c.in-N576R23.is at c.requires.word_len in
    let here = rw c.in-N576R23.is at c.requires.c_in_bounds in
    let all = asks tables1 c.args.c c.args.word.now wide here _ c.requires.in_bounds in
    record { flat_checks = all.0; c_in_bounds = all.1.0; c_in_bounds_2 = all.1.1 }

pub returns-in-N576R23 : goal.returns-in-N576R23
unfolding check_starts1 check_bits1
returns-in-N576R23 c = rw c.in-N576R23.is (gives tables1 c.args.c c.args.word.now c.check_over-in-N576R23.ensures)

pub check_over-requires-in-N512R34 : goal.check_over-requires-in-N512R34
unfolding check_starts2 check_bits2
check_over-requires-in-N512R34 c =
    let wide = rw c.in-N512R34.is at c.requires.word_len in
    let here = rw c.in-N512R34.is at c.requires.c_in_bounds in
    let all = asks tables2 c.args.c c.args.word.now wide here _ c.requires.in_bounds in
    record { flat_checks = all.0; c_in_bounds = all.1.0; c_in_bounds_2 = all.1.1 }

pub returns-in-N512R34 : goal.returns-in-N512R34
unfolding check_starts2 check_bits2
returns-in-N512R34 c = rw c.in-N512R34.is (gives tables2 c.args.c c.args.word.now c.check_over-in-N512R34.ensures)

pub check_over-requires-in-Ft8 : goal.check_over-requires-in-Ft8
unfolding check_start check_bits
check_over-requires-in-Ft8 c =
    let wide = rw c.in-Ft8.is at c.requires.word_len in
    let here = rw c.in-Ft8.is at c.requires.c_in_bounds in
    let all = asks (tables3 0) c.args.c c.args.word.now wide here _ c.requires.in_bounds in
    record { flat_checks = all.0; c_in_bounds = all.1.0; c_in_bounds_2 = all.1.1 }

pub returns-in-Ft8 : goal.returns-in-Ft8
unfolding check_start check_bits
returns-in-Ft8 c = rw c.in-Ft8.is (gives (tables3 0) c.args.c c.args.word.now c.check_over-in-Ft8.ensures)
