-- `passes::check_pass` meets its contract, code by code: its pads are the places that its checks lack. Assumes nothing.
use native.Mathlib.Omega.{arith}
use Rattle.code174.proofs.Arrays.{slot_pads}
use Rattle.passes.specs.Codes.{size_m, checks_by, degree, room}
use Rattle.passes.proofs.Tables.{pads0, pads1, pads2, pads3, one_below, pads_below}
use Rattle.passes.proofs.check_pass.Goals as goal

pub check_step-requires : goal.check_step-requires
unfolding room degree size_m
check_step-requires c = let e = rw c.in-N512R12.is at c.requires.messages_len in
    record { work_len = e; below = one_below _ _ (omega (arith, e)) }

pub returns-in-N512R12 : goal.returns-in-N512R12
unfolding checks_by size_m degree
returns-in-N512R12 c = rw (c.in-N512R12.is, ← pads0) c.check_step.ensures

pub check_step-requires-in-N576R23 : goal.check_step-requires-in-N576R23
unfolding room degree size_m
check_step-requires-in-N576R23 c = let e = rw c.in-N576R23.is at c.requires.messages_len in
    record { work_len = e; below = one_below _ _ (omega (arith, e)) }

pub returns-in-N576R23 : goal.returns-in-N576R23
unfolding checks_by size_m degree
returns-in-N576R23 c = rw (c.in-N576R23.is, ← pads1) c.check_step-in-N576R23.ensures

pub check_step-requires-in-N512R34 : goal.check_step-requires-in-N512R34
unfolding room degree size_m
check_step-requires-in-N512R34 c = let e = rw c.in-N512R34.is at c.requires.messages_len in
    record { work_len = e; below = one_below _ _ (omega (arith, e)) }

pub returns-in-N512R34 : goal.returns-in-N512R34
unfolding checks_by size_m degree
returns-in-N512R34 c = rw (c.in-N512R34.is, ← pads2) c.check_step-in-N512R34.ensures

pub check_step-requires-in-Ft8 : goal.check_step-requires-in-Ft8
unfolding room degree size_m slot_pads
check_step-requires-in-Ft8 c = let e = rw c.in-Ft8.is at c.requires.messages_len in record { work_len = e; below = pads_below _ e }

pub returns-in-Ft8 : goal.returns-in-Ft8
unfolding checks_by size_m degree slot_pads
returns-in-Ft8 c = rw (c.in-Ft8.is, ← pads3) c.check_step-in-Ft8.ensures
