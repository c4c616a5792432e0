-- `coded::refusal_code` meets its contract: the number taken from 0. Assumes nothing.
use mathlib.Core.Path.{ap, ◌∙◌}
use native.Mathlib.Omega.{arith}
use Prim.Native.Nat.{ℕ}
use lib.IntN.{pos, neg_ℤ}
use Rattle.coded.proofs.Signed.{minus_short, minus_read}
use Rattle.coded.proofs.refusal_code.Goals as goal

pub overflow_sub-result : goal.overflow_sub-result
overflow_sub-result c = minus_short c.from-n.result (omega (arith, c.from-n.type_inv))

pub returns : goal.returns
returns c = minus_read c.from-n.result (omega (arith, c.from-n.type_inv)) ∙ ap (λ (n : ℕ). neg_ℤ (pos n)) c.from-n.ensures
