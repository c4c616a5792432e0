-- `packing::bit_in` meets its contract: bit i of bytes is bit 7 - i % 8 of byte i / 8. Assumes nothing.

use mathlib.Core.Path.{sym}
use native.Mathlib.Omega.{arith}
use Rattle.bits.proofs.Digits.{bits_at}
use Rattle.packing.proofs.bit_in.Goals as goal

pub returns : goal.returns
returns c = sym (bits_at c.args.bytes.now c.args.i (omega arith))
