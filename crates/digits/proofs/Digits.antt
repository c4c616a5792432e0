-- The digits of a number, a weight at a time; their number; what they say when they are read back. By induction over the weights.
use mathlib.Core.Path.{◌≡◌, refl}
use mathlib.Core.List.{List, [], ◌∷◌, ◌++◌}
use Prim.Native.Nat.{ℕ, zero, suc, ◌+◌, ◌-◌, ◌%◌, ◌^◌, ◌≤◌, ◌<◌}
use native.Mathlib.Numerals.{sub-one}
use native.Mathlib.Omega.{arith}
use lib.Dec.{lit≤}
use lib.ListN.{length, length-append}
use Rattle.text.specs.Text.{leading, decimal}
use Rattle.text.proofs.Lengths.{leading_short}
use Rattle.text.proofs.Put.{Left}
use Rattle.digits.specs.Digits.{digits_from, digits, numbered}

-- ---- a turn

pub digits_more : (k p n : ℕ) → 0 < k → p ≡ 10 ^ k → digits_from k n ≡ leading p n ++ digits_from (k - 1) n
unfolding digits_from
digits_more zero p n h e = absurd (omega arith)
digits_more (suc k) p n h e = rw (sub-one (suc k), e)

-- with the digits of the weights that are left to put: in a turn that of this weight comes first of them, and after the turns the last digit is left
module _ (out : List ℕ) (at : ℕ) (text now : List ℕ) (next k n : ℕ) (left : Left out at text now next (digits_from k n)) where
  pub left_turn : (p : ℕ) → 0 < k → p ≡ 10 ^ k → Left out at text now next (leading p n ++ digits_from (k - 1) n)
  left_turn p h e = rw (digits_more k p n h e) at left

  pub turn_fits : (p : ℕ) → 0 < k → p ≡ 10 ^ k → at + length text ≤ length out → next + length (leading p n) ≤ length now
  turn_fits p h e room =
      let l = left_turn p h e in
      omega (arith, room, l.end, l.size, length-append (leading p n) (digits_from (k - 1) n))

  pub left_last : k ≤ 0 → Left out at text now next ((48 + n % 10) ∷ [])
  unfolding digits_from
  left_last h =
      let none : k ≡ 0 = omega arith in
      rw none at left

-- five digits are those of `decimal`
pub short_same : (n : ℕ) → decimal n ≡ digits_from 4 n
unfolding decimal digits_from
short_same n = refl

-- ---- lengths

from_short : (k n : ℕ) → length (digits_from k n) ≤ k + 1
unfolding digits_from
from_short zero n = lit≤ tt
from_short (suc k) n = rw length-append (omega (arith, leading_short (10 ^ suc k) n, from_short k n))

pub digits_short : (n : ℕ) → length (digits n) ≤ 20
unfolding digits
digits_short n = from_short 19 n

pub numbered-length : (word : List ℕ) (n : ℕ) → length (numbered word n) ≡ length word + length (digits n)
unfolding numbered
numbered-length word n = length-append word (digits n)
