-- What an input has that is not malformed, condition by condition. Assumes nothing.
use mathlib.Core.Path.{◌≡◌}
use mathlib.Core.Bool.{false, not, ◌||◌}
use mathlib.Core.List.{List}
use mathlib.Mathlib.Data.Bool.Basic.{or-eq-false-eq-eq-false-and-eq-false as or-is-false}
use Prim.Native.Nat.{ℕ, ◌≤◌}
use borrow.Author.Tests.{ltb-false}
use lib.Dec.{ltb, eqb}
use lib.ListN.{length, get_or}
use Rattle.batch_input.specs.Input.{values_start, malformed}

pub record Wellformed (s : List ℕ) : Type 0 where
  pub short : length s ≤ 65536
  pub head : 12 ≤ length s
  pub pairs : values_start s ≤ length s

pub wellformed : (s : List ℕ) → malformed s ≡ false → Wellformed s
unfolding malformed
wellformed s h =
    let long = ltb 65536 (length s) in
    let cut = ltb (length s) 12 in
    let filler = not (eqb (get_or s 10 0) 0) in
    let filler2 = not (eqb (get_or s 11 0) 0) in
    let pair = ltb (length s) (values_start s) in
    let five = ((or-is-false (long || cut || filler || filler2 || pair) _).0 h).0 in
    let last = (or-is-false (long || cut || filler || filler2) pair).0 five in
    let three = ((or-is-false (long || cut || filler) filler2).0 last.0).0 in
    let two = (or-is-false long cut).0 ((or-is-false (long || cut) filler).0 three).0 in
    record {
      short = ltb-false 65536 (length s) two.0;
      head = ltb-false (length s) 12 two.1;
      pairs = ltb-false (length s) (values_start s) last.1;
    }
