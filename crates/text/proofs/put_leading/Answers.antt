-- `text::put_leading` meets its contract. A number below the weight has no digit there. Assumes nothing.
use native.Mathlib.Omega.{arith}
use borrow.Author.Tests.{lt-ltb, le-ltb}
use Rattle.text.specs.Text.{leading}
use Rattle.text.proofs.Put.{nothing}
use Rattle.text.proofs.put_leading.Goals as goal

pub returns-then-n-p : goal.returns-then-n-p
unfolding leading
returns-then-n-p c = rw (lt-ltb c.args.n c.args.p c.if-n-p.true) (nothing _ _)

pub put_byte-requires : goal.put_byte-requires
unfolding leading
put_byte-requires c = omega (
  arith,
  rw (le-ltb c.args.n c.args.p c.if-n-p.false) at c.requires.n_in_bounds,
)

pub returns : goal.returns
unfolding leading
returns c = let start = c in
    rw (le-ltb start.args.n start.args.p c.if-n-p.false) c.put_byte.ensures
