-- `text::put_hex` meets its contract. The invariant: with the bytes that are left put where the loop stands, the buffer holds the whole text.
use Rattle.std.proofs.Common.{arith, ap, length}
use Rattle.text.proofs.Put.{left-all, left_less, left-none}
use Rattle.text.proofs.Hex.{hex_more, hex-none}
use Rattle.text.proofs.put_hex.Goals as goal

pub loop-eight-init : goal.loop-eight-init
loop-eight-init c = (cc, rw (c.into_iter-eight-iterator.ensures.into_iter_gives, c.chunks-eight-items.ensures.rest) (left-all _ _ _))

pub put_hex_byte-next-requires : goal.put_hex_byte-next-requires
put_hex_byte-next-requires c =
    let s = c.in-Some.ensures.steps.1 in
    let now = c.loop-eight.invariant in
    let more = hex_more _ _ _ s.0 (rw now.0 at s.1) s.2 in
    omega (arith, ap length more, now.1.end, now.1.size)

pub loop-eight-preserved : goal.loop-eight-preserved
loop-eight-preserved c =
    let s = c.in-Some.ensures.steps in
    let now = c.loop-eight.invariant in
    let more = hex_more _ _ _ s.1.0 (rw now.0 at s.1.1) s.1.2 in
    (cc, left_less _ _ _ _ _ _ _ _ _ c.requires (rw more at now.1) (rw c.byte_at.ensures at c.put_hex_byte-next.ensures))

pub returns : goal.returns
returns c =
    let end = hex-none _ c.in-None.ensures.steps.1.0 in
    left-none _ _ _ _ _ (rw end at c.loop-eight.invariant.1)
