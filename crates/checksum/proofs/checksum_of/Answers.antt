-- `checksum::checksum_of` meets its contract: whole bytes, and then the bits of one more. Assumes nothing.

use mathlib.Core.Path.{ap, ◌∙◌}
use Prim.Native.Nat.{ℕ, ◌/◌, ◌%◌, ◌^◌}
use native.Mathlib.Omega.{arith}
use lib.ListN.{get_or}
use Rattle.checksum.specs.Upper.{turns_up, taken_in}
use Rattle.checksum.proofs.Upper.{lowered_whole, lowered_rest}
use Rattle.checksum.proofs.checksum_of.Goals as goal

pub returns-then-rest-eq0 : goal.returns-then-rest-eq0
returns-then-rest-eq0 c =
    c.lowered.ensures ∙ ap (λ (r : ℕ). r / 2 ^ 18) c.whole_bytes-r.ensures ∙ lowered_whole _ _ c.if-rest-eq0.true

pub returns : goal.returns
returns c =
    let a = c.args in
    let n = a.num_bits in
    c.lowered-2.ensures
    ∙ ap (λ (r : ℕ). r / 2 ^ 18) c.last_bits.ensures
    ∙ ap (λ (r : ℕ). turns_up (n % 8) (taken_in r (get_or a.message.now (n / 8) 0)) / 2 ^ 18) c.whole_bytes-r.ensures
    ∙ lowered_rest a.message.now n c.if-rest-eq0.false (omega (arith, c.type_inv.message (n / 8)))
