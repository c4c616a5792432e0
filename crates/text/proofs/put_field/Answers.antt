-- `text::put_field` meets its contract. The word, and then the number. Assumes nothing.
use native.Mathlib.Omega.{arith}
use Rattle.text.proofs.Put.{then}
use Rattle.text.specs.Text.{field}
use Rattle.text.proofs.Lengths.{field-length}
use Rattle.text.proofs.put_field.Goals as goal

pub put_text-a-requires : goal.put_text-a-requires
put_text-a-requires c = omega (arith, field-length c.args.word.now c.args.n)

pub put_decimal-requires : goal.put_decimal-requires
put_decimal-requires c = omega (arith, field-length c.args.word.now c.args.n)

pub returns : goal.returns
unfolding field
returns c = let room = field-length c.args.word.now c.args.n in
    then c.put_text-a.ensures (omega arith) c.put_decimal.ensures
