-- `stair_counts::first` meets its contract: each code's table holds its rows. By the code's number. Assumes nothing.
use Rattle.std.proofs.Common.{◌≡◌, ℕ, zero, suc, refl, arith}
use Rattle.construction.specs.Codes.{n512r34}
use Rattle.staircase.specs.Codes.{code_of}
use Rattle.staircase.proofs.Laid.{taps-right}
use Rattle.n512r12.proofs.Tables.{taps0, laid0}
use Rattle.n576r23.proofs.Tables.{taps1, laid1}
use Rattle.n512r34.proofs.Tables.{taps2, laid2}
use Rattle.stairs.proofs.Codes.{stairs0, stairs1, stairs2}
use Rattle.stair_counts.proofs.first.Goals as goal

-- any number above 1 is code 2
last : (n : ℕ) → (n ≡ 0 → ⊥) → (n ≡ 1 → ⊥) → code_of n ≡ n512r34
last zero h k = absurd (h refl)
last (suc zero) h k = absurd (k refl)
last (suc (suc n)) h k = refl

pub first_row-requires : goal.first_row-requires
unfolding taps0
first_row-requires c = stairs0 _ (rw c.in-0.is at c.requires)

pub first_row-requires-in-1 : goal.first_row-requires-in-1
unfolding taps1
first_row-requires-in-1 c = stairs1 _ (rw c.in-1.is at c.requires)

pub first_row-requires-in_default : goal.first_row-requires-in_default
unfolding taps2
first_row-requires-in_default c = stairs2 _ (rw (last c.args.code (λ e. omega arith) (λ e. omega arith)) at c.requires)

pub returns-in-0 : goal.returns-in-0
unfolding taps0
returns-in-0 c = rw (c.in-0.is, ← taps-right laid0) c.first_row.ensures

pub returns-in-1 : goal.returns-in-1
unfolding taps1
returns-in-1 c = rw (c.in-1.is, ← taps-right laid1) c.first_row-in-1.ensures

pub returns-in_default : goal.returns-in_default
unfolding taps2
returns-in_default c = rw (last c.args.code (λ e. omega arith) (λ e. omega arith), ← taps-right laid2) c.first_row-in_default.ensures
