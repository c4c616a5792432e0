-- `digits::put_digits` meets its contract. The invariant: with the digits of the weights that are left put where the loop stands, the buffer holds them all.
use Rattle.std.proofs.Common.{◌-◌, [], arith, lit≤}
use Rattle.std.proofs.Math.Nat.{one-le-pow}
use Rattle.text.proofs.Put.{left-all, left_less, left-none}
use Rattle.digits.specs.Digits.{digits}
use Rattle.digits.proofs.Digits.{left_turn, turn_fits, left_last}
use Rattle.digits.proofs.put_digits.Goals as goal

pub loop-k-init : goal.loop-k-init
unfolding digits
loop-k-init c = left-all _ _ _

pub put_leading-next-requires-clause-p_nonzero : goal.put_leading-next-requires-clause-p_nonzero
put_leading-next-requires-clause-p_nonzero c = omega (arith, c.pow.ensures, one-le-pow (c.loop-k.k - 1) 10 (lit≤ tt))

pub put_leading-next-requires-clause-n_in_bounds : goal.put_leading-next-requires-clause-n_in_bounds
put_leading-next-requires-clause-n_in_bounds c = turn_fits _ _ _ _ _ _ _ c.loop-k.invariant _ (omega arith) c.pow.ensures c.requires

pub loop-k-preserved : goal.loop-k-preserved
loop-k-preserved c =
    left_less _ _ _ _ _ _ _ _ _ c.requires (left_turn _ _ _ _ _ _ _ c.loop-k.invariant _ (omega arith) c.pow.ensures) c.put_leading-next.ensures

pub put_byte-requires : goal.put_byte-requires
put_byte-requires c =
    let left = left_last _ _ _ _ _ _ _ c.loop-k.invariant (omega arith) in
    omega (arith, left.end, left.size)

pub returns : goal.returns
returns c =
    left-none _ _ _ _ _ (left_less _ _ _ _ _ _ [] _ _ c.requires (left_last _ _ _ _ _ _ _ c.loop-k.invariant (omega arith)) c.put_byte.ensures)
