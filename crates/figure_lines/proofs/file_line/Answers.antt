-- `figure_lines::file_line` meets its contract: the place, and then the reason, by its case.
use Prim.Native.Nat.{◌+◌, ◌≤◌}
use native.Mathlib.Omega.{arith}
use lib.ListN.{length}
use Rattle.text.proofs.Put.{then}
use Rattle.text.proofs.Lengths.{refusal_short}
use Rattle.digits.proofs.Digits.{digits_short}
use Rattle.figure_lines.specs.Lines.{refused_line, unreadable_line}
use Rattle.figure_lines.proofs.Lengths.{room_after, digits-room}
use Rattle.figure_lines.proofs.file_line.Goals as goal

pub put_digits-a-requires : goal.put_digits-a-requires
put_digits-a-requires c = digits-room _ _ _ (omega (arith, c.requires))

pub put_byte-b-requires : goal.put_byte-b-requires
put_byte-b-requires c =
    let room1 : c.put_digits-a.result + 15 ≤ length c.put_digits-a.new.out =
    room_after _ 15 c.put_digits-a.ensures (digits_short _) (omega (arith, c.requires)) in
    omega (arith, room1)

pub refusal_line-requires : goal.refusal_line-requires
refusal_line-requires c =
    let room1 : c.put_digits-a.result + 15 ≤ length c.put_digits-a.new.out =
    room_after _ 15 c.put_digits-a.ensures (digits_short _) (omega (arith, c.requires)) in
    let room2 : c.put_byte-b.result + 14 ≤ length c.put_byte-b.new.out = room_after 1 14 c.put_byte-b.ensures (omega arith) (omega (arith, room1)) in
    omega (arith, room2, refusal_short c.from.result)

pub put_text-b-requires : goal.put_text-b-requires
put_text-b-requires c =
    let room1 : c.put_digits-a.result + 15 ≤ length c.put_digits-a.new.out =
    room_after _ 15 c.put_digits-a.ensures (digits_short _) (omega (arith, c.requires)) in
    omega (arith, room1)

pub put_byte-requires : goal.put_byte-requires
put_byte-requires c =
    let room1 : c.put_digits-a.result + 15 ≤ length c.put_digits-a.new.out =
    room_after _ 15 c.put_digits-a.ensures (digits_short _) (omega (arith, c.requires)) in
    let room3 : c.put_text-b.result + 1 ≤ length c.put_text-b.new.out = room_after 11 1 c.put_text-b.ensures (omega arith) (omega (arith, room1)) in
    omega (arith, room3)

pub returns-in-Refused : goal.returns-in-Refused
unfolding refused_line
returns-in-Refused c =
    let room1 : c.put_digits-a.result + 15 ≤ length c.put_digits-a.new.out =
    room_after _ 15 c.put_digits-a.ensures (digits_short _) (omega (arith, c.requires)) in
    rw c.in-Refused.is
    (then c.put_digits-a.ensures (digits-room _ _ _ (omega (arith, c.requires)))
    (then c.put_byte-b.ensures (omega (arith, room1))
    (rw c.from.ensures at c.refusal_line.ensures)))

pub returns-in-Unreadable : goal.returns-in-Unreadable
unfolding unreadable_line
returns-in-Unreadable c =
    let room1 : c.put_digits-a.result + 15 ≤ length c.put_digits-a.new.out =
    room_after _ 15 c.put_digits-a.ensures (digits_short _) (omega (arith, c.requires)) in
    rw c.in-Unreadable.is
    (then c.put_digits-a.ensures (digits-room _ _ _ (omega (arith, c.requires)))
    (then c.put_text-b.ensures (omega (arith, room1))
    c.put_byte.ensures))
