-- `figures::gcd` meets its contract. The invariant: what is left of the pair has the greatest common divisor of a and b.

use mathlib.Core.Path.{sym, ap, ◌∙◌}
use native.Mathlib.Nat.{pos_of_ne-zero}
use Rattle.figures.specs.Fraction.{gcd}
use Rattle.figures.proofs.Euclid.{gcd-zero, gcd-step}
use Rattle.figures.proofs.gcd.Goals as goal

pub loop-y-preserved : goal.loop-y-preserved
loop-y-preserved c = sym (gcd-step c.loop-y.x c.loop-y.y (pos_of_ne-zero c.loop-y-test.true)) ∙ c.loop-y.invariant

pub returns : goal.returns
returns c = sym (gcd-zero c.loop-y.x) ∙ ap (gcd c.loop-y.x) (sym c.loop-y-test.false) ∙ c.loop-y.invariant
