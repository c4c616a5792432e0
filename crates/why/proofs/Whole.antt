-- The line of an input, by what the program tests first: whether the place is cut, and whether the batch after it is malformed. Assumes nothing.
use mathlib.Core.Path.{◌≡◌}
use mathlib.Core.Bool.{true, false}
use mathlib.Core.List.{List}
use Prim.Native.Nat.{ℕ, ◌-◌, ◌<◌, ◌≤◌}
use native.Mathlib.Omega.{arith}
use borrow.Author.Tests.{lt-ltb, le-ltb}
use lib.ListN.{length, take, length-drop}
use lib.Seq.{take_all}
use Rattle.text.specs.Text.{refusal_line}
use Rattle.batch_input.specs.Input.{malformed}
use Rattle.why.specs.Why.{place_of, batch_of, why_of, asked_line}

module _ (s : List ℕ) where
  -- the part of the input that the place leaves
  pub rest-is : take (length s - 2) (batch_of s) ≡ batch_of s
  rest-is = take_all (length s - 2) (batch_of s) (simp length-drop (omega arith))

  pub cut_line : length s < 2 → refusal_line 13 ≡ why_of s
  unfolding why_of
  cut_line h = rw (lt-ltb (length s) 2 h)

  module _ (h : 2 ≤ length s) where
    pub malformed-line : malformed (batch_of s) ≡ true → refusal_line 13 ≡ why_of s
    unfolding why_of
    malformed-line m = rw (le-ltb (length s) 2 h, m)

    pub asked-why : malformed (batch_of s) ≡ false → asked_line (place_of s) (batch_of s) ≡ why_of s
    unfolding why_of asked_line
    asked-why m = rw (le-ltb (length s) 2 h, m)
