-- The four arrays of the source are the (174,91) code's checks and each position's edges, laid flat: by computation over all 522 edges.
-- Assumes nothing.
use mathlib.Core.Path.{◌≡◌, refl, ap₂, ◌∙◌}
use mathlib.Core.List.{List}
use Prim.Native.Nat.{ℕ}
use native.Mathlib.Omega.{arith}
use lib.Dec.{ltb}
use lib.ListN.{length, get_or}
use borrow.Author.Tests.{ltb-true}
use Rattle.tanner.specs.Flat.{joined, ends, offsets, rows_of, FlatChecks}
use Rattle.lists.specs.Below.{Below}
use Rattle.tanner.proofs.Flat.{rows_laid, flat_checks}
use Rattle.code174.specs.Tables.{nm, num_rows}
use Rattle.code174.specs.Code174.{rows_of_seven, checks}
use Rattle.code174.specs.Agreement.{each}
use Rattle.code174.proofs.Arrays.{check_start, check_bits}
use Rattle.code174.proofs.Tests.{each_at}

-- ---- the checks

pub check-bits : check_bits ≡ joined checks
unfolding check_bits checks rows_of_seven nm num_rows joined
check-bits = refl

pub check-start : check_start ≡ offsets checks
unfolding check_start checks rows_of_seven nm num_rows ends
check-start = refl

-- ---- what users of the arrays ask

pub positions_low : Below 174 check_bits
unfolding check_bits Below each
positions_low k h = ltb-true _ _ (each_at 522 (λ (i : ℕ). ltb (get_or check_bits i 0) 174) refl k h)

pub checks-low : Below 174 (joined checks)
checks-low = rw check-bits at positions_low

-- the arrays hold the check list
pub laid : rows_of check_start check_bits ≡ checks
laid = ap₂ (λ (s f : List ℕ). rows_of s f) check-start check-bits ∙ rows_laid checks

pub many : length checks ≡ 83
unfolding checks rows_of_seven num_rows nm
many = refl

pub flat : FlatChecks check_start check_bits 174
flat = rw (check-start, check-bits) (flat_checks checks 174 (omega (arith, many)) checks-low)
