-- `figure_lines::put_sums` meets its contract: the four numbers are written one after the other, and after each there is room for the rest.
use Prim.Native.Nat.{◌+◌, ◌≤◌}
use native.Mathlib.Omega.{arith}
use lib.ListN.{length}
use Rattle.text.proofs.Put.{then}
use Rattle.figure_lines.specs.Lines.{sums_text}
use Rattle.figure_lines.proofs.Lengths.{room_after, number_short, number-room}
use Rattle.figure_lines.proofs.put_sums.Goals as goal

pub put_number-a-requires : goal.put_number-a-requires
put_number-a-requires c = number-room _ _ _ _ (omega (arith, c.requires))

pub put_number-b-requires : goal.put_number-b-requires
put_number-b-requires c =
    let room1 : c.put_number-a.result + 83 ≤ length c.put_number-a.new.out =
    room_after _ 83 c.put_number-a.ensures (number_short _ _) (omega (arith, c.requires)) in
    number-room _ _ _ _ (omega (arith, room1))

pub put_number-c-requires : goal.put_number-c-requires
put_number-c-requires c =
    let room1 : c.put_number-a.result + 83 ≤ length c.put_number-a.new.out =
    room_after _ 83 c.put_number-a.ensures (number_short _ _) (omega (arith, c.requires)) in
    let room2 : c.put_number-b.result + 56 ≤ length c.put_number-b.new.out = room_after _ 56 c.put_number-b.ensures (number_short _ _) (omega (arith, room1)) in
    number-room _ _ _ _ (omega (arith, room2))

pub put_number-requires : goal.put_number-requires
put_number-requires c =
    let room1 : c.put_number-a.result + 83 ≤ length c.put_number-a.new.out =
    room_after _ 83 c.put_number-a.ensures (number_short _ _) (omega (arith, c.requires)) in
    let room2 : c.put_number-b.result + 56 ≤ length c.put_number-b.new.out = room_after _ 56 c.put_number-b.ensures (number_short _ _) (omega (arith, room1)) in
    let room3 : c.put_number-c.result + 28 ≤ length c.put_number-c.new.out = room_after _ 28 c.put_number-c.ensures (number_short _ _) (omega (arith, room2)) in
    number-room _ _ _ _ (omega (arith, room3))

pub returns : goal.returns
unfolding sums_text
returns c =
    let room1 : c.put_number-a.result + 83 ≤ length c.put_number-a.new.out =
    room_after _ 83 c.put_number-a.ensures (number_short _ _) (omega (arith, c.requires)) in
    let room2 : c.put_number-b.result + 56 ≤ length c.put_number-b.new.out = room_after _ 56 c.put_number-b.ensures (number_short _ _) (omega (arith, room1)) in
    then c.put_number-a.ensures (number-room _ _ _ _ (omega (arith, c.requires)))
    (then c.put_number-b.ensures (number-room _ _ _ _ (omega (arith, room1)))
    (then c.put_number-c.ensures (number-room _ _ _ _ (omega (arith, room2)))
    c.put_number.ensures))
