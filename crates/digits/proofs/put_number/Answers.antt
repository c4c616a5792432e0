-- `digits::put_number` meets its contract. The word, and then the number.
use native.Mathlib.Omega.{arith}
use Rattle.text.proofs.Put.{then}
use Rattle.digits.specs.Digits.{numbered}
use Rattle.digits.proofs.Digits.{numbered-length}
use Rattle.digits.proofs.put_number.Goals as goal

pub put_text-a-requires : goal.put_text-a-requires
put_text-a-requires c = omega (arith, numbered-length c.args.word.now c.args.n)

pub put_digits-requires : goal.put_digits-requires
put_digits-requires c = omega (arith, numbered-length c.args.word.now c.args.n, c.put_text-a.ensures.end)

pub returns : goal.returns
unfolding numbered
returns c = then c.put_text-a.ensures (omega (arith, numbered-length c.args.word.now c.args.n)) c.put_digits.ensures
