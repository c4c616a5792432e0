-- An array whose front was lent and came back holds there what the call left. Assumes nothing.
use mathlib.Core.Path.{◌≡◌, sym, ◌∙◌}
use mathlib.Core.List.{List, ◌++◌}
use Prim.Native.Nat.{ℕ, ◌≤◌}
use native.Mathlib.Omega.{arith}
use lib.ListN.{length, take, drop, length-append}
use lib.Seq.{length-take-le, take_at}

module _ {A : Type 0} (room : List A) (n : ℕ) (fits : n ≤ length room) where
  pub part_length : n ≡ length (take n room)
  part_length = sym (length-take-le n room fits)

  module _ (left : List A) (kept : length left ≡ length (take n room)) where
    pub left-length : length left ≡ n
    left-length = kept ∙ sym part_length

    pub back : take n (left ++ drop n room) ≡ left
    back = take_at left (drop n room) n left-length

    pub back_fits : n ≤ length (left ++ drop n room)
    back_fits = rw (length-append left (drop n room)) (omega (arith, left-length))

    pub back-length : n ≡ length (take n (left ++ drop n room))
    back-length = rw back (sym left-length)
