-- `batch_input::load_values` meets its contract. The invariant: what is written so far is the front of the list.
use Rattle.std.proofs.Common.{ap, ◌∙◌, arith}
use Rattle.batch_input.specs.Input.{float_of}
use Rattle.batch_input.proofs.Load.{load-more, load-none, load-done}
use Rattle.batch_input.proofs.load_values.Goals as goal

pub loop-i-init : goal.loop-i-init
loop-i-init c = load-none float_of c.args.input.now c.args.at c.args.values.now

pub loop-i-preserved : goal.loop-i-preserved
loop-i-preserved c =
    let value = c.float_of.ensures ∙ ap float_of c.u32_at.ensures in
    load-more float_of c.args.input.now c.args.at c.loop-i.values c.loop-i.i _ (omega arith) value c.loop-i.invariant

pub returns : goal.returns
returns c =
    let n = c.loop-i in
    load-done float_of c.args.input.now c.args.at n.values n.i _ (omega arith) (omega arith) n.invariant
