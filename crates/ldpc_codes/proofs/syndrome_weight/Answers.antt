-- `ldpc_codes::syndrome_weight` meets its contract: each way out by the tests that led there. Assumes nothing.
use mathlib.Core.Path.{ap, ◌∙◌}
use Prim.Native.Nat.{◌≤◌, ◌<◌}
use native.Mathlib.Omega.{arith}
use borrow.Author.Tests.{lt-ltb, le-ltb}
use lib.ListN.{length}
use Rattle.construction.specs.Codes.{block_length}
use Rattle.refusal.specs.Outcome.{accepted}
use Rattle.staircase.specs.Codes.{code_of}
use Rattle.ldpc_codes.proofs.Laid.{front_weight}
use Rattle.ldpc_codes.proofs.syndrome_weight.Goals as goal

pub returns-then-code-gt2 : goal.returns-then-code-gt2
returns-then-code-gt2 c = let h : 3 ≤ c.args.code = omega (arith, c.if-code-gt2.true) in
    simp (le-ltb _ _ h)

pub returns-then-hard-values_of : goal.returns-then-hard-values_of
returns-then-hard-values_of c = let a = c.args in
    let known : a.code < 3 = omega (arith, c.if-code-gt2.false) in
    let short : length a.hard.now < block_length (code_of a.code) = omega (arith, c.if-hard-values_of.true, c.values_of.ensures) in
    simp (lt-ltb _ _ known, lt-ltb _ _ short)

pub counted-requires : goal.counted-requires
counted-requires c = omega (arith, c.if-hard-values_of.false, c.values_of.ensures)

pub returns-else-hard-values_of : goal.returns-else-hard-values_of
returns-else-hard-values_of c = let a = c.args in
    let known : a.code < 3 = omega (arith, c.if-code-gt2.false) in
    let long : block_length (code_of a.code) ≤ length a.hard.now = omega (arith, c.if-hard-values_of.false, c.values_of.ensures) in
    simp (lt-ltb _ _ known, le-ltb _ _ long) (ap accepted (c.counted.ensures ∙ front_weight _ _))
