-- `figures::fraction_of` meets its contract: with frames, the greatest common divisor is not 0, and both numbers are divided by it.
use native.Mathlib.Omega.{arith}
use borrow.Author.Rules.{rules}
use Rattle.figures.specs.Fraction.{lowest}
use Rattle.figures.proofs.Euclid.{gcd-pos}
use Rattle.figures.proofs.fraction_of.Goals as goal

pub nonzero_div-result : goal.nonzero_div-result
nonzero_div-result c = rw c.gcd-g.ensures (gcd-pos c.args.n c.args.frames (omega arith))

pub nonzero_div-result-2 : goal.nonzero_div-result-2
nonzero_div-result-2 c = rw c.gcd-g.ensures (gcd-pos c.args.n c.args.frames (omega arith))

pub returns : goal.returns
unfolding lowest
returns c = search rules
