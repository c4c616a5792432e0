-- `ldpc::ldpc_count_errors` meets its contract: the word behind a byte 0, counted by whole bytes. Assumes nothing.
use mathlib.Core.Path.{ap, ◌∙◌}
use mathlib.Core.List.{List}
use Prim.Native.Nat.{ℕ}
use native.Mathlib.Omega.{arith}
use borrow.Author.Tests.{eq-eqb, ne_eqb}
use lib.ListN.{drop}
use Rattle.refusal.specs.Outcome.{accepted}
use Rattle.tanner.specs.Masked.{syndrome_masked}
use Rattle.lists.specs.Below.{Below}
use Rattle.code174.specs.Code174.{checks}
use Rattle.ldpc.proofs.Counting.{bytes_counted}
use Rattle.ldpc.proofs.ldpc_count_errors.Goals as goal

pub returns-then-hard-ne-N : goal.returns-then-hard-ne-N
returns-then-hard-ne-N c = simp (ne_eqb _ _ c.if-hard-ne-N.true)

pub returns : goal.returns
unfolding Below
returns c = let hard = c.args.hard.now in
    let bytes : Below 256 hard = λ k h. omega (arith, c.type_inv.hard k) in
    let same = c.counted.ensures ∙ ap (λ (p : List ℕ). syndrome_masked 255 checks (drop 1 p)) c.padded_word-padded.ensures in
    simp (eq-eqb _ _ c.if-hard-ne-N.false) (ap accepted (same ∙ bytes_counted hard bytes))
