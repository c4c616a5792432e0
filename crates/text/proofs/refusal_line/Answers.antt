-- `text::refusal_line` meets its contract. The word and its number, and then the line's end. Assumes nothing.
use native.Mathlib.Omega.{arith}
use Rattle.text.proofs.Put.{then}
use Rattle.text.specs.Text.{refusal_line}
use Rattle.text.proofs.Lengths.{refusal_length}
use Rattle.text.proofs.refusal_line.Goals as goal

pub put_field-a-requires : goal.put_field-a-requires
put_field-a-requires c = omega (arith, refusal_length c.args.number)

pub put_byte-requires : goal.put_byte-requires
put_byte-requires c = omega (arith, refusal_length c.args.number)

pub returns : goal.returns
unfolding refusal_line
returns c = let room = refusal_length c.args.number in
    then c.put_field-a.ensures (omega arith) c.put_byte.ensures
