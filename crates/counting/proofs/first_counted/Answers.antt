-- `counting::first_counted` meets its contract: none where the count is 0, else that of (174,91) or of the staircase code that has the number. Assumes nothing.
use mathlib.Core.Path.{sym, ◌∙◌}
use native.Mathlib.Omega.{arith}
use Rattle.tanner.proofs.First.{zero-none, masked_adds}
use Rattle.numbered.specs.Codes.{size_n, checks_by}
use Rattle.numbered.proofs.Codes.{stair_size, stair_checks}
use Rattle.numbered.proofs.Numbers.{stair_number}
use Rattle.counting.proofs.first_counted.Goals as goal

pub returns-then-count-eq0 : goal.returns-then-count-eq0
returns-then-count-eq0 c = sym (zero-none _ _ (masked_adds _ _) 0 _ (sym c.requires.count_value ∙ c.if-count-eq0.true))

pub first_low-requires : goal.first_low-requires
unfolding size_n
first_low-requires c = rw c.in-Ft8.is at c.requires.hard_len

pub returns-in-Ft8 : goal.returns-in-Ft8
unfolding checks_by
returns-in-Ft8 c = rw c.in-Ft8.is c.first_low.ensures

pub first-requires : goal.first-requires
first-requires c = rw c.from.ensures (omega (arith, c.requires.hard_len, stair_size _ (stair_number _ c.in_default.not-Ft8)))

pub returns-in_default : goal.returns-in_default
returns-in_default c = rw (stair_checks _ (stair_number _ c.in_default.not-Ft8), ← c.from.ensures) c.first.ensures
