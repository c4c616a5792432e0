-- What the definitions say of a code: its checks lie flat in its tables, and its count is that of the low bits of the first N bytes. By the laws of tanner.
use mathlib.Core.Path.{◌≡◌, sym, ◌∙◌}
use mathlib.Core.List.{List}
use Prim.Native.Nat.{ℕ, ◌<◌}
use native.Mathlib.Omega.{arith}
use Rattle.construction.specs.Codes.{Code, block_length}
use Rattle.tanner.specs.Checks.{low_bits}
use Rattle.tanner.specs.Masked.{syndrome_masked}
use Rattle.tanner.specs.Flat.{joined, offsets, FlatChecks}
use Rattle.tanner.proofs.Count.{low-take}
use Rattle.tanner.proofs.First.{low-syndrome, front-syndrome}
use Rattle.tanner.proofs.Flat.{flat_checks, all_below}
use Rattle.staircase.specs.Codes.{checks}
use Rattle.staircase.proofs.Positions.{checks-low, checks_many}
use Rattle.ldpc_codes.specs.Calls.{syndrome_of}

-- flat, with starts
pub laid_flat : (c : Code) (starts flat : List ℕ) → starts ≡ offsets (checks c) → flat ≡ joined (checks c) → c.m < 65536
    → FlatChecks starts flat (block_length c)
laid_flat c starts flat s f h = rw (s, f) (flat_checks (checks c) (block_length c) (omega (arith, checks_many c)) (checks-low c))

pub front_weight : (c : Code) (hard : List ℕ) → syndrome_masked 1 (checks c) hard ≡ syndrome_of c hard
front_weight c hard =
    rw (low-take (block_length c) hard)
    (low-syndrome (checks c) hard ∙ sym (front-syndrome (block_length c) (low_bits hard) (all_below (block_length c) (checks c) (checks-low c))))
