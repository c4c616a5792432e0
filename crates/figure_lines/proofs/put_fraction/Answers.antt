-- `figure_lines::put_fraction` meets its contract: the word with the number over the line, and then the one under it.
use Prim.Native.Nat.{◌+◌, ◌≤◌}
use native.Mathlib.Omega.{arith}
use lib.ListN.{length}
use Rattle.text.proofs.Put.{then}
use Rattle.figure_lines.specs.Lines.{fraction_text}
use Rattle.figure_lines.proofs.Lengths.{room_after, number_short, number-room}
use Rattle.figure_lines.proofs.put_fraction.Goals as goal

pub put_number-a-requires : goal.put_number-a-requires
put_number-a-requires c = number-room _ _ _ _ (omega (arith, c.requires))

-- after the first number there is room for the second
pub put_number-requires : goal.put_number-requires
put_number-requires c =
    let under : c.put_number-a.result + 21 ≤ length c.put_number-a.new.out =
    room_after _ 21 c.put_number-a.ensures (number_short _ _) (omega (arith, c.requires)) in
    number-room _ _ _ _ (omega (arith, under))

pub returns : goal.returns
unfolding fraction_text
returns c = then c.put_number-a.ensures (number-room _ _ _ _ (omega (arith, c.requires))) c.put_number.ensures
