-- `parities::copy_message` meets its contract. The invariant: what is passed is the message's, and the rest is as it was. Assumes nothing.
use Rattle.std.proofs.Common.{◌≡◌, length, refl, ◌∙◌, arith}
use lib.ListN.{length-set}
use lib.Seq.{take-length}
use Rattle.lists.proofs.Loops.{front-more}
use Rattle.parities.proofs.copy_message.Goals as goal

pub loop-i-init : goal.loop-i-init
loop-i-init c = (omega arith, (refl, refl))

pub loop-i-preserved : goal.loop-i-preserved
loop-i-preserved c = (
  omega arith,
  (simp length-set (omega arith), front-more _ 0 _ _ _ c.loop-i-test.true (omega arith) c.loop-i.invariant.1.1),
)

pub returns : goal.returns
returns c = let e : c.loop-i.i ≡ length c.args.message.now =
    omega arith in c.loop-i.invariant.1.1 ∙ rw (e, take-length c.args.message.now)
