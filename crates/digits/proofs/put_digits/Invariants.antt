-- `digits::put_digits` meets its contract. The invariant: with the digits of the weights that are left put where the loop stands, the buffer holds them all.
use Rattle.std.proofs.Common.{◌-◌}
use Rattle.text.proofs.Put.{Left}
use Rattle.digits.specs.Digits.{digits_from, digits}
use Rattle.digits.proofs.put_digits.Given as goal

abbrev pub invariant-loop-k : goal.invariant-loop-k
invariant-loop-k l = Left l.initial.out l.at (digits l.n) l.out l.next (digits_from (l.k - 1) l.n)
