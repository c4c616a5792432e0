-- `one_line::frame_line` meets its contract: the fields are written one after the other, and the length of the line leaves room for each. Assumes nothing.
use native.Mathlib.Omega.{arith}
use Rattle.text.proofs.Put.{then}
use Rattle.one_line.specs.Line.{frame_line}
use Rattle.one_line.proofs.Lengths.{frame-length}
use Rattle.one_line.proofs.frame_line.Goals as goal

pub put_decimal-a-requires : goal.put_decimal-a-requires
put_decimal-a-requires c = omega (arith, frame-length c.args.place c.args.count c.args.rounds c.args.clean c.args.bits.now c.args.first)

pub put_field-b-requires : goal.put_field-b-requires
put_field-b-requires c = omega (arith, frame-length c.args.place c.args.count c.args.rounds c.args.clean c.args.bits.now c.args.first)

pub put_field-c-requires : goal.put_field-c-requires
put_field-c-requires c = omega (arith, frame-length c.args.place c.args.count c.args.rounds c.args.clean c.args.bits.now c.args.first)

pub clean_or_open-d-requires : goal.clean_or_open-d-requires
clean_or_open-d-requires c = omega (arith, frame-length c.args.place c.args.count c.args.rounds c.args.clean c.args.bits.now c.args.first)

pub put_hex-e-requires : goal.put_hex-e-requires
put_hex-e-requires c = omega (arith, frame-length c.args.place c.args.count c.args.rounds c.args.clean c.args.bits.now c.args.first)

pub first_field-f-requires : goal.first_field-f-requires
first_field-f-requires c = omega (arith, frame-length c.args.place c.args.count c.args.rounds c.args.clean c.args.bits.now c.args.first)

pub put_byte-requires : goal.put_byte-requires
put_byte-requires c = omega (arith, frame-length c.args.place c.args.count c.args.rounds c.args.clean c.args.bits.now c.args.first)

pub returns : goal.returns
unfolding frame_line
returns c =
    let whole = frame-length c.args.place c.args.count c.args.rounds c.args.clean c.args.bits.now c.args.first in
    then c.put_decimal-a.ensures (omega (arith, whole))
    (then c.put_field-b.ensures (omega (arith, whole))
    (then c.put_field-c.ensures (omega (arith, whole))
    (then c.clean_or_open-d.ensures (omega (arith, whole))
    (then c.put_hex-e.ensures (omega (arith, whole))
    (then c.first_field-f.ensures (omega (arith, whole))
    c.put_byte.ensures)))))
