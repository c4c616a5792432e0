-- `text::put_decimal` meets its contract. The digits are written one after the other. Assumes nothing.
use native.Mathlib.Omega.{arith}
use Rattle.text.specs.Text.{decimal}
use Rattle.text.proofs.Put.{then}
use Rattle.text.proofs.Lengths.{decimal-length}
use borrow.Author.Rules.{rules}
use Rattle.text.proofs.put_decimal.Goals as goal

pub put_leading-a-requires : goal.put_leading-a-requires
put_leading-a-requires c = record { p_nonzero = search rules; n_in_bounds = omega (arith, decimal-length c.args.n) }

pub put_leading-b-requires : goal.put_leading-b-requires
put_leading-b-requires c = record { p_nonzero = search rules; n_in_bounds = omega (arith, decimal-length c.args.n) }

pub put_leading-c-requires : goal.put_leading-c-requires
put_leading-c-requires c = record { p_nonzero = search rules; n_in_bounds = omega (arith, decimal-length c.args.n) }

pub put_leading-d-requires : goal.put_leading-d-requires
put_leading-d-requires c = record { p_nonzero = search rules; n_in_bounds = omega (arith, decimal-length c.args.n) }

pub put_byte-requires : goal.put_byte-requires
put_byte-requires c = omega (arith, decimal-length c.args.n)

pub returns : goal.returns
unfolding decimal
returns c = let room = decimal-length c.args.n in
    then c.put_leading-a.ensures (omega arith)
    (then c.put_leading-b.ensures (omega arith)
    (then c.put_leading-c.ensures (omega arith)
    (then c.put_leading-d.ensures (omega arith)
    c.put_byte.ensures)))
