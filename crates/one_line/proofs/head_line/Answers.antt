-- `one_line::head_line` meets its contract: the fields are written one after the other, and the length of the line leaves room for each. Assumes nothing.
use native.Mathlib.Omega.{arith}
use Rattle.text.proofs.Put.{then}
use Rattle.one_line.specs.Line.{head_line}
use Rattle.one_line.proofs.Lengths.{head_length}
use Rattle.one_line.proofs.head_line.Goals as goal

pub put_field-a-requires : goal.put_field-a-requires
put_field-a-requires c = omega (arith, head_length c.args.code c.args.rule c.args.limit c.args.frames)

pub put_field-b-requires : goal.put_field-b-requires
put_field-b-requires c = omega (arith, head_length c.args.code c.args.rule c.args.limit c.args.frames)

pub put_field-c-requires : goal.put_field-c-requires
put_field-c-requires c = omega (arith, head_length c.args.code c.args.rule c.args.limit c.args.frames)

pub put_field-d-requires : goal.put_field-d-requires
put_field-d-requires c = omega (arith, head_length c.args.code c.args.rule c.args.limit c.args.frames)

pub put_byte-requires : goal.put_byte-requires
put_byte-requires c = omega (arith, head_length c.args.code c.args.rule c.args.limit c.args.frames)

pub returns : goal.returns
unfolding head_line
returns c =
    let whole = head_length c.args.code c.args.rule c.args.limit c.args.frames in
    then c.put_field-a.ensures (omega (arith, whole))
    (then c.put_field-b.ensures (omega (arith, whole))
    (then c.put_field-c.ensures (omega (arith, whole))
    (then c.put_field-d.ensures (omega (arith, whole))
    c.put_byte.ensures)))
