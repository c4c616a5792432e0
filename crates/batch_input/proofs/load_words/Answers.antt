-- `batch_input::load_words` meets its contract. The invariant: what is written so far is the front of the list.
use Rattle.std.proofs.Common.{arith}
use Rattle.batch_input.proofs.Load.{load-more, load-none, load-done}
use Rattle.batch_input.proofs.load_words.Goals as goal

pub loop-i-init : goal.loop-i-init
loop-i-init c = load-none (λ w. w) c.args.input.now c.args.at c.args.words.now

pub loop-i-preserved : goal.loop-i-preserved
loop-i-preserved c =
    load-more (λ w. w) c.args.input.now c.args.at c.loop-i.words c.loop-i.i _ (omega arith) c.u32_at.ensures c.loop-i.invariant

pub returns : goal.returns
returns c =
    let n = c.loop-i in
    load-done (λ w. w) c.args.input.now c.args.at n.words n.i _ (omega arith) (omega arith) n.invariant
