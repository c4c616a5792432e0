-- `figure_lines::put_figures` meets its contract: the sums, the two fractions and the line's end, and after each there is room for the rest.
use Prim.Native.Nat.{◌+◌, ◌≤◌}
use native.Mathlib.Omega.{arith}
use lib.ListN.{length}
use Rattle.text.proofs.Put.{then}
use Rattle.figure_lines.specs.Lines.{figures_text}
use Rattle.figure_lines.proofs.Lengths.{room_after, sums_short, fraction_short, fraction-room}
use Rattle.figure_lines.proofs.put_figures.Goals as goal

pub put_sums-sums-requires : goal.put_sums-sums-requires
put_sums-sums-requires c = omega (arith, c.requires)

pub put_fraction-share-requires : goal.put_fraction-share-requires
put_fraction-share-requires c =
    let room1 : c.put_sums-sums.result + 96 ≤ length c.put_sums-sums.new.out =
    room_after _ 96 c.put_sums-sums.ensures (sums_short _) (omega (arith, c.requires)) in
    omega (arith, room1)

pub put_fraction-mean-requires : goal.put_fraction-mean-requires
put_fraction-mean-requires c =
    let room1 : c.put_sums-sums.result + 96 ≤ length c.put_sums-sums.new.out =
    room_after _ 96 c.put_sums-sums.ensures (sums_short _) (omega (arith, c.requires)) in
    let room2 : c.put_fraction-share.result + 48 ≤ length c.put_fraction-share.new.out =
    room_after _ 48 c.put_fraction-share.ensures (fraction_short _ _) (omega (arith, room1)) in
    omega (arith, room2)

pub put_byte-requires : goal.put_byte-requires
put_byte-requires c =
    let room1 : c.put_sums-sums.result + 96 ≤ length c.put_sums-sums.new.out =
    room_after _ 96 c.put_sums-sums.ensures (sums_short _) (omega (arith, c.requires)) in
    let room2 : c.put_fraction-share.result + 48 ≤ length c.put_fraction-share.new.out =
    room_after _ 48 c.put_fraction-share.ensures (fraction_short _ _) (omega (arith, room1)) in
    let room3 : c.put_fraction-mean.result + 1 ≤ length c.put_fraction-mean.new.out =
    room_after _ 1 c.put_fraction-mean.ensures (fraction_short _ _) (omega (arith, room2)) in
    omega (arith, room3)

pub returns : goal.returns
unfolding figures_text
returns c =
    let room1 : c.put_sums-sums.result + 96 ≤ length c.put_sums-sums.new.out =
    room_after _ 96 c.put_sums-sums.ensures (sums_short _) (omega (arith, c.requires)) in
    let room2 : c.put_fraction-share.result + 48 ≤ length c.put_fraction-share.new.out =
    room_after _ 48 c.put_fraction-share.ensures (fraction_short _ _) (omega (arith, room1)) in
    then c.put_sums-sums.ensures (omega (arith, c.requires, sums_short c.args.t))
    (then c.put_fraction-share.ensures (fraction-room _ _ _ _ (omega (arith, room1)))
    (then c.put_fraction-mean.ensures (fraction-room _ _ _ _ (omega (arith, room2)))
    c.put_byte.ensures))
