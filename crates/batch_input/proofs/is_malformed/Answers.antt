-- `batch_input::is_malformed` meets its contract. Each condition is one branch: where it holds the input is malformed, and where it does not the
-- next decides. Assumes nothing.
use mathlib.Core.Path.{◌≡◌}
use mathlib.Core.Bool.{true, not}
use mathlib.Core.List.{List}
use Prim.Native.Nat.{ℕ, ◌-◌, ◌%◌, ◌<◌, ◌≤◌}
use lib.Dec.{eqb}
use lib.ListN.{length, get_or}
use borrow.Author.Tests.{lt-ltb, le-ltb, eq-eqb, ne_eqb}
use Rattle.batch_input.specs.Input.{values_start, malformed}
use Rattle.batch_input.proofs.is_malformed.Goals as goal

-- ---- an input, condition by condition
module _ (s : List ℕ) where
  too_long : 65536 < length s → true ≡ malformed s
  unfolding malformed
  too_long h = simp (lt-ltb 65536 (length s) h)

  header-cut : length s ≤ 65536 → length s < 12 → true ≡ malformed s
  unfolding malformed
  header-cut a h = simp (le-ltb 65536 (length s) a, lt-ltb (length s) 12 h)

  module _ (a : length s ≤ 65536) (b : 12 ≤ length s) where
    first-filler : (get_or s 10 0 ≡ 0 → ⊥) → true ≡ malformed s
    unfolding malformed
    first-filler h = simp (le-ltb 65536 (length s) a, le-ltb (length s) 12 b, ne_eqb (get_or s 10 0) 0 h)

    second-filler : get_or s 10 0 ≡ 0 → (get_or s 11 0 ≡ 0 → ⊥) → true ≡ malformed s
    unfolding malformed
    second-filler d h = simp (le-ltb 65536 (length s) a, le-ltb (length s) 12 b, eq-eqb (get_or s 10 0) 0 d, ne_eqb (get_or s 11 0) 0 h)

    module _ (d : get_or s 10 0 ≡ 0) (e : get_or s 11 0 ≡ 0) where
      pairs-cut : length s < values_start s → true ≡ malformed s
      unfolding malformed
      pairs-cut h =
          simp (le-ltb 65536 (length s) a, le-ltb (length s) 12 b, eq-eqb (get_or s 10 0) 0 d, eq-eqb (get_or s 11 0) 0 e, lt-ltb (length s) (values_start s) h)

      value-cut : values_start s ≤ length s → not (eqb ((length s - values_start s) % 4) 0) ≡ malformed s
      unfolding malformed
      value-cut h =
          simp (le-ltb 65536 (length s) a, le-ltb (length s) 12 b, eq-eqb (get_or s 10 0) 0 d, eq-eqb (get_or s 11 0) 0 e, le-ltb (length s) (values_start s) h)

-- ---- the branches
pub returns-then-input-gt65536 : goal.returns-then-input-gt65536
returns-then-input-gt65536 c = too_long _ c.if-input-gt65536.true

pub returns-then-input-lt12 : goal.returns-then-input-lt12
returns-then-input-lt12 c = header-cut _ c.if-input-gt65536.false c.if-input-lt12.true

pub returns-then-input-ne0 : goal.returns-then-input-ne0
returns-then-input-ne0 c = let long = c in
    first-filler _ long.if-input-gt65536.false long.if-input-lt12.false c.if-input-ne0.true

pub returns-then-input-ne0-2 : goal.returns-then-input-ne0-2
returns-then-input-ne0-2 c = let first = c in
    let long = first in
    second-filler _ long.if-input-gt65536.false long.if-input-lt12.false first.if-input-ne0.false c.if-input-ne0-2.true

pub returns-then-input-start : goal.returns-then-input-start
returns-then-input-start c = let second = c in
    let first = second in
    let long = first in
    pairs-cut _ long.if-input-gt65536.false long.if-input-lt12.false first.if-input-ne0.false second.if-input-ne0-2.false
    (rw c.values_start-start.ensures at c.if-input-start.true)

pub returns : goal.returns
returns c = let second = c in
    let first = second in
    let long = first in
    let start = c.values_start-start.ensures in
    rw start (value-cut _ long.if-input-gt65536.false long.if-input-lt12.false first.if-input-ne0.false second.if-input-ne0-2.false
    (rw start at c.if-input-start.false))
