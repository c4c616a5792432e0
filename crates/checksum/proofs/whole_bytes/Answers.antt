-- `checksum::whole_bytes` meets its contract. The invariant: r is the register after the bytes so far.
use Rattle.std.proofs.Common.{◌≡◌, ◌+◌, ◌*◌, refl, arith}
use Rattle.std.proofs.lemmas.List.{get_or-take, length-take}
use Rattle.checksum.specs.Register.{register}
use Rattle.checksum.specs.Upper.{upper}
use Rattle.checksum.proofs.Upper.{up_byte}
use Rattle.checksum.proofs.whole_bytes.Goals as goal

pub loop-byte-init : goal.loop-byte-init
unfolding upper register
loop-byte-init c = refl

pub loop-byte-preserved : goal.loop-byte-preserved
loop-byte-preserved c =
    let k = c.loop-byte.byte-index in
    let m = c.args.message.now in
    let whole : 8 * k + 8 ≡ 8 * (k + 1) = omega arith in
    let here = get_or-take c.args.n m k 0 (omega (arith, length-take c.args.n m)) in
    let taken = up_byte m k (omega (arith, c.type_inv.message k)) 7 (omega arith) in
    rw (← whole) (cc)
