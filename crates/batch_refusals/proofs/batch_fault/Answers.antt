-- `batch_refusals::batch_fault` meets its contract: the numbers and lengths, and then the pairs. Assumes nothing.
use mathlib.Core.Path.{◌≡◌, sym, ap, ◌∙◌}
use mathlib.Core.List.{List}
use Prim.Native.Nat.{ℕ, ◌/◌}
use lib.ListN.{length}
use Rattle.refusal.proofs.Judged.{verdict}
use Rattle.refusal.proofs.Exits.{exit}
use Rattle.batch_refusals.specs.Pairs.{pairs_of}
use Rattle.batch_refusals.specs.Refusals.{head_refusals, pair_refusals}
use Rattle.batch_refusals.proofs.Pairs.{pairs-length}
use Rattle.batch_refusals.proofs.Whole.{head-refused, head_passed}
use Rattle.batch_refusals.specs.declared.Room.{Room}
use Rattle.refusal.specs.Outcome.{Outcome}
use Rattle.batch_refusals.proofs.batch_fault.Goals as goal

-- what the test of the numbers and lengths found is what the definition says
head-is : (code rule : ℕ) (pairs : List ℕ) (room : Room) {o : Outcome Unit} → o ≡ verdict (head_refusals code rule (length pairs / 2) room)
    → verdict (head_refusals code rule (length (pairs_of pairs)) room) ≡ o
head-is code rule pairs room e = sym (e ∙ ap (λ (n : ℕ). verdict (head_refusals code rule n room)) (sym (pairs-length pairs)))

pub returns-in_err-head_fault : goal.returns-in_err-head_fault
returns-in_err-head_fault c = let a = c.args in
    exit c.from_residual.result _ c.from_residual.ensures.1
    ∙ sym (head-refused a.code a.rule a.values (pairs_of a.pairs.now) a.room _
    (head-is a.code a.rule a.pairs.now a.room c.in_err-head_fault.ensures))

pub returns : goal.returns
returns c = let a = c.args in
    let ps = pairs_of a.pairs.now in
    c.pairs_fault.ensures
    ∙ ap (λ (n : ℕ). verdict (pair_refusals n a.values 0 ps)) c.frame_values.ensures
    ∙ sym (head_passed a.code a.rule a.values ps a.room (head-is a.code a.rule a.pairs.now a.room c.in_ok-head_fault.ensures))
