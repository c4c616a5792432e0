-- `counting::count` meets its contract: (174,91), or the staircase code that has the number. Assumes nothing.
use native.Mathlib.Omega.{arith}
use Rattle.numbered.specs.Codes.{size_n, checks_by}
use Rattle.numbered.proofs.Codes.{stair_size, stair_checks}
use Rattle.numbered.proofs.Numbers.{stair_number}
use Rattle.counting.proofs.count.Goals as goal

pub count_low-requires : goal.count_low-requires
unfolding size_n
count_low-requires c = rw c.in-Ft8.is at c.requires.hard_len

pub returns-in-Ft8 : goal.returns-in-Ft8
unfolding checks_by
returns-in-Ft8 c = rw c.in-Ft8.is c.count_low.ensures

pub count-requires : goal.count-requires
count-requires c = rw c.from.ensures (omega (arith, c.requires.hard_len, stair_size _ (stair_number _ c.in_default.not-Ft8)))

pub returns-in_default : goal.returns-in_default
returns-in_default c = rw (stair_checks _ (stair_number _ c.in_default.not-Ft8), ← c.from.ensures) c.count.ensures
