-- `parities::fill_n576r23` meets its contract: the table holds the code's rows, and the four calls fill in all of them. Assumes nothing.
use mathlib.Core.Path.{refl}
use native.Mathlib.Omega.{arith}
use Rattle.construction.specs.Codes.{n576r23}
use Rattle.staircase.proofs.Laid.{taps-right}
use Rattle.n576r23.proofs.Tables.{taps1, laid1}
use Rattle.stairs.proofs.Codes.{stairs1}
use Rattle.stair_parity.proofs.Filling.{part_of}
use Rattle.parities.proofs.Filled.{four_filled}
use borrow.Author.Rules.{rules}
use Rattle.parities.proofs.fill_n576r23.Goals as goal

pub fill_four-requires : goal.fill_four-requires
unfolding taps1
fill_four-requires c = part_of 0 48 (stairs1 _ (search rules)) (omega arith)

pub fill_four-requires-2 : goal.fill_four-requires-2
unfolding taps1
fill_four-requires-2 c = part_of 48 48 (stairs1 _ (search rules)) (omega arith)

pub fill_four-requires-3 : goal.fill_four-requires-3
unfolding taps1
fill_four-requires-3 c = part_of 96 48 (stairs1 _ (search rules)) (omega arith)

pub fill_four-requires-4 : goal.fill_four-requires-4
unfolding taps1
fill_four-requires-4 c = part_of 144 48 (stairs1 _ (search rules)) (omega arith)

pub returns : goal.returns
unfolding taps1
returns c = let four = c in
    let three = four in
    let two = three in
    let one = two in
    four_filled n576r23 6 48 taps1 _ _ _ _ _ (taps-right laid1) refl one.fill_four.ensures two.fill_four-2.ensures three.fill_four-3.ensures
    four.fill_four-4.ensures
