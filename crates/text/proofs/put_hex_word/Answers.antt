-- `text::put_hex_word` meets its contract. Its two bytes, one after the other.
use Rattle.std.proofs.Common.{◌≡◌, ◌/◌, ◌%◌, get_or, arith}
use Rattle.text.proofs.Put.{then}
use Rattle.text.proofs.put_hex_word.Goals as goal

pub returns : goal.returns
returns c =
    let high : get_or c.to_be_bytes.result 0 0 ≡ c.args.n / 256 = rw c.to_be_bytes.ensures (omega (arith, c.ranges.n)) in
    let low : get_or c.to_be_bytes.result 1 0 ≡ c.args.n % 256 = rw c.to_be_bytes.ensures (omega arith) in
    rw (← high, ← low) (then c.put_hex_byte-next.ensures (omega arith) c.put_hex_byte.ensures)
