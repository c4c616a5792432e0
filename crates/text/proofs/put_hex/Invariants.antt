-- `text::put_hex` meets its contract. The invariant: with the bytes that are left put where the loop stands, the buffer holds the whole text.
use Rattle.std.proofs.Common.{◌≡◌}
use Rattle.std.specs.Slice.Iter.{chunks_rest, chunks_size}
use Rattle.text.specs.Text.{hex}
use Rattle.text.proofs.Put.{Left}
use Rattle.text.proofs.put_hex.Given as goal

abbrev pub invariant-loop-eight : goal.invariant-loop-eight
invariant-loop-eight l =
    (chunks_size l.eight-iterator ≡ 8) × Left l.initial.out l.at (hex l.bits) l.out l.next (hex (chunks_rest l.eight-iterator))
