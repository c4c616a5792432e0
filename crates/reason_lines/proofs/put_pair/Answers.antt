-- `reason_lines::put_pair` meets its contract. A space and the position, a colon and the bit. Assumes nothing.
use native.Mathlib.Omega.{arith}
use Rattle.text.proofs.Put.{then}
use Rattle.reason_lines.specs.Lines.{pair_text}
use Rattle.reason_lines.proofs.Lengths.{pair-length}
use Rattle.reason_lines.proofs.put_pair.Goals as goal

pub put_field-next-requires : goal.put_field-next-requires
put_field-next-requires c =
    let a = c.args in omega (arith, pair-length a.p a.bit)

pub put_field-requires : goal.put_field-requires
put_field-requires c =
    let a = c.args in omega (arith, pair-length a.p a.bit)

pub returns : goal.returns
unfolding pair_text
returns c =
    let a = c.args in
    let room = pair-length a.p a.bit in
    then c.put_field-next.ensures (omega arith) c.put_field.ensures
