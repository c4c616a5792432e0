-- `parities::fill_n512r34` meets its contract: the table holds the code's rows, and the four calls fill in all of them. Assumes nothing.
use mathlib.Core.Path.{refl}
use native.Mathlib.Omega.{arith}
use Rattle.construction.specs.Codes.{n512r34}
use Rattle.staircase.proofs.Laid.{taps-right}
use Rattle.n512r34.proofs.Tables.{taps2, laid2}
use Rattle.stairs.proofs.Codes.{stairs2}
use Rattle.stair_parity.proofs.Filling.{part_of}
use Rattle.parities.proofs.Filled.{four_filled}
use borrow.Author.Rules.{rules}
use Rattle.parities.proofs.fill_n512r34.Goals as goal

pub fill_four-requires : goal.fill_four-requires
unfolding taps2
fill_four-requires c = part_of 0 32 (stairs2 _ (search rules)) (omega arith)

pub fill_four-requires-2 : goal.fill_four-requires-2
unfolding taps2
fill_four-requires-2 c = part_of 32 32 (stairs2 _ (search rules)) (omega arith)

pub fill_four-requires-3 : goal.fill_four-requires-3
unfolding taps2
fill_four-requires-3 c = part_of 64 32 (stairs2 _ (search rules)) (omega arith)

pub fill_four-requires-4 : goal.fill_four-requires-4
unfolding taps2
fill_four-requires-4 c = part_of 96 32 (stairs2 _ (search rules)) (omega arith)

pub returns : goal.returns
unfolding taps2
returns c = let four = c in
    let three = four in
    let two = three in
    let one = two in
    four_filled n512r34 9 32 taps2 _ _ _ _ _ (taps-right laid2) refl one.fill_four.ensures two.fill_four-2.ensures three.fill_four-3.ensures
    four.fill_four-4.ensures
