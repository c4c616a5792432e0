-- `text::put_hex_byte` meets its contract. Two digits, one after the other. Assumes nothing.
use native.Mathlib.Omega.{arith}
use Rattle.text.proofs.Put.{then}
use Rattle.text.proofs.put_hex_byte.Goals as goal

pub returns : goal.returns
returns c = let after = c in
    let before = after in
    rw (← before.hex_digit.ensures, ← after.hex_digit-2.ensures) (then before.put_byte-high.ensures (omega arith) after.put_byte.ensures)
