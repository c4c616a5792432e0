-- `eighths::write_values` meets its contract. The invariant: what is written so far is the values of the bytes so far.
use Rattle.std.proofs.Common.{pos, ap, ◌∙◌, w8, rules, arith}
use Rattle.std.proofs.lemmas.Int.{to_z-of_z}
use Rattle.soft_bytes.specs.Values.{value_of}
use Rattle.eighths.specs.Calls.{values_of}
use Rattle.lists.proofs.Loops.{map_more, map-done}
use Rattle.eighths.proofs.write_values.Goals as goal

pub loop-i-preserved : goal.loop-i-preserved
unfolding values_of
loop-i-preserved c =
    let a = c.args in
    let now = c.loop-i in
    map_more (value_of a.positive_is_one) (pos 0) a.bytes.now now.values now.i _ (omega arith) (omega arith)
    (c.value_of.ensures ∙ ap (value_of a.positive_is_one) (to_z-of_z w8 _ (search rules))) now.invariant

pub returns : goal.returns
unfolding values_of
returns c =
    let a = c.args in
    map-done (value_of a.positive_is_one) (pos 0) a.bytes.now c.loop-i.values c.loop-i.i (omega arith) (omega arith) c.loop-i.invariant
