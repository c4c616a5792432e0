-- `reason_lines::nan_line` meets its contract. The word and its number, and then the line's end. Assumes nothing.
use native.Mathlib.Omega.{arith}
use Rattle.text.proofs.Put.{then}
use Rattle.reason_lines.specs.Lines.{nan_line}
use Rattle.reason_lines.proofs.Lengths.{nan-length}
use Rattle.reason_lines.proofs.nan_line.Goals as goal

pub put_field-at-requires : goal.put_field-at-requires
put_field-at-requires c = omega (arith, nan-length c.args.p)

pub put_byte-requires : goal.put_byte-requires
put_byte-requires c = omega (arith, nan-length c.args.p)

pub returns : goal.returns
unfolding nan_line
returns c =
    let room = nan-length c.args.p in
    then c.put_field-at.ensures (omega arith) c.put_byte.ensures
