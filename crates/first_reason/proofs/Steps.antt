-- The scan for a NaN, one value at a time; the reasons, one test at a time. Assumes nothing.
use Rattle.std.proofs.Common.{Some, None}
use mathlib.Core.Path.{◌≡◌}
use mathlib.Core.Bool.{true, false}
use mathlib.Core.List.{List}
use Prim.Native.Nat.{ℕ, ◌+◌, ◌<◌, ◌≤◌}
use native.Mathlib.Numerals.{add-one}
use native.Mathlib.Omega.{arith}
use lib.Ieee.{Float, nan, is_nan}
use lib.ListN.{length, get_or, drop}
use lib.Seq.{drop-cons, drop-length}
use Rattle.first_reason.specs.Reasons.{first_nan}

module _ (vs : List Float) (i : ℕ) (h : i < length vs) where
  pub nan-here : is_nan (get_or vs i nan) ≡ true → Some i ≡ first_nan i (drop i vs)
  unfolding first_nan
  nan-here d = rw (drop-cons vs i nan h, d)

  pub nan-later : is_nan (get_or vs i nan) ≡ false → first_nan i (drop i vs) ≡ first_nan (i + 1) (drop (i + 1) vs)
  unfolding first_nan
  nan-later d = rw (add-one i, drop-cons vs i nan h, d)

pub nan_nowhere : (vs : List Float) (i : ℕ) → length vs ≤ i → i ≤ length vs → None ≡ first_nan i (drop i vs)
unfolding first_nan
nan_nowhere vs i h k =
    let all : i ≡ length vs = omega arith in
    rw (all, drop-length vs)
