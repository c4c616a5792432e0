-- `parities::fill_n512r12` meets its contract: the table holds the code's rows, and the four calls fill in all of them. Assumes nothing.
use mathlib.Core.Path.{refl}
use native.Mathlib.Omega.{arith}
use Rattle.construction.specs.Codes.{n512r12}
use Rattle.staircase.proofs.Laid.{taps-right}
use Rattle.n512r12.proofs.Tables.{taps0, laid0}
use Rattle.stairs.proofs.Codes.{stairs0}
use Rattle.stair_parity.proofs.Filling.{part_of}
use Rattle.parities.proofs.Filled.{four_filled}
use borrow.Author.Rules.{rules}
use Rattle.parities.proofs.fill_n512r12.Goals as goal

pub fill_four-requires : goal.fill_four-requires
unfolding taps0
fill_four-requires c = part_of 0 64 (stairs0 _ (search rules)) (omega arith)

pub fill_four-requires-2 : goal.fill_four-requires-2
unfolding taps0
fill_four-requires-2 c = part_of 64 64 (stairs0 _ (search rules)) (omega arith)

pub fill_four-requires-3 : goal.fill_four-requires-3
unfolding taps0
fill_four-requires-3 c = part_of 128 64 (stairs0 _ (search rules)) (omega arith)

pub fill_four-requires-4 : goal.fill_four-requires-4
unfolding taps0
fill_four-requires-4 c = part_of 192 64 (stairs0 _ (search rules)) (omega arith)

pub returns : goal.returns
unfolding taps0
returns c = let four = c in
    let three = four in
    let two = three in
    let one = two in
    four_filled n512r12 3 64 taps0 _ _ _ _ _ (taps-right laid0) refl one.fill_four.ensures two.fill_four-2.ensures three.fill_four-3.ensures
    four.fill_four-4.ensures
