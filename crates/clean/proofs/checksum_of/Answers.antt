-- `clean::checksum_of` meets its contract. The invariant: the register is the checksum of the bits so far.
use Rattle.std.proofs.Common.{ℕ, ◌*◌, ◌%◌, ap, ◌∙◌, arith}
use Rattle.std.proofs.lemmas.List.{take_all}
use Rattle.std.specs.Int.Bits.{bit_xor}
use Rattle.checksum.specs.Qex.{qex}
use Rattle.checksum.specs.Register.{turn}
use Rattle.clean.proofs.Steps.{padded, padded-length, checksum-lt, checksum-start, checksum-more}
use Rattle.clean.proofs.checksum_of.Goals as goal

pub loop-i-init : goal.loop-i-init
loop-i-init c = checksum-start c.args.bytes.now

pub turn_bit-r-requires-clause-r_bound : goal.turn_bit-r-requires-clause-r_bound
turn_bit-r-requires-clause-r_bound c = rw c.loop-i.invariant (checksum-lt c.args.bytes.now c.loop-i.i)

pub loop-i-preserved : goal.loop-i-preserved
loop-i-preserved c =
    let b = c.bit_at in
    c.turn_bit-r.ensures ∙ ap (λ (q : ℕ). turn (bit_xor q (b.result * 8192)) % 16384) c.loop-i.invariant
    ∙ checksum-more c.args.bytes.now c.loop-i.i b.result c.loop-i-test.true b.ensures.0 b.ensures.1

pub returns : goal.returns
returns c =
    let bytes = c.args.bytes.now in
    c.loop-i.invariant ∙ ap qex (take_all c.loop-i.i (padded bytes) (omega (arith, padded-length bytes)))
