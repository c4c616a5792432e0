-- `reason_lines::checksum_line` meets its contract. The word and the two values, one part after the other. Assumes nothing.
use native.Mathlib.Omega.{arith}
use Rattle.text.proofs.Put.{then}
use Rattle.reason_lines.specs.Lines.{checksum_line}
use Rattle.reason_lines.proofs.Lengths.{checksum_length}
use Rattle.reason_lines.proofs.checksum_line.Goals as goal

-- ---- the room that is left before each writer
pub put_text-a-requires : goal.put_text-a-requires
put_text-a-requires c = omega (arith, checksum_length c.args.carried c.args.computed)

pub put_hex_word-b-requires : goal.put_hex_word-b-requires
put_hex_word-b-requires c = omega (arith, checksum_length c.args.carried c.args.computed)

pub put_byte-c-requires : goal.put_byte-c-requires
put_byte-c-requires c = omega (arith, checksum_length c.args.carried c.args.computed)

pub put_hex_word-d-requires : goal.put_hex_word-d-requires
put_hex_word-d-requires c = omega (arith, checksum_length c.args.carried c.args.computed)

pub put_byte-requires : goal.put_byte-requires
put_byte-requires c = omega (arith, checksum_length c.args.carried c.args.computed)

pub returns : goal.returns
unfolding checksum_line
returns c =
    let size = checksum_length c.args.carried c.args.computed in
    let last = then c.put_hex_word-d.ensures (omega (arith, size)) c.put_byte.ensures in
    let middle = then c.put_hex_word-b.ensures (omega (arith, size)) (then c.put_byte-c.ensures (omega (arith, size)) last) in
    then c.put_text-a.ensures (omega (arith, size)) middle
