-- Lists of bits, in parts and together. By induction over the list. Assumes nothing.
use mathlib.Core.List.{List, [], ◌∷◌, ◌++◌}
use Prim.Native.Nat.{ℕ, zero, suc, ◌<◌}
use native.Mathlib.Omega.{arith}
use lib.ListN.{replicate, take, drop}

-- each is 0 or 1
pub data AreBits : List ℕ → Type 0 where
  none : AreBits []
  more : {b : ℕ} {bs : List ℕ} → b < 2 → AreBits bs → AreBits (b ∷ bs)

pub are_bits_append : {xs ys : List ℕ} → AreBits xs → AreBits ys → AreBits (xs ++ ys)
are_bits_append none k = k
are_bits_append (more h hs) k = more h (are_bits_append hs k)

pub are_bits_take : (n : ℕ) {xs : List ℕ} → AreBits xs → AreBits (take n xs)
are_bits_take zero h = none
are_bits_take (suc n) none = none
are_bits_take (suc n) (more h hs) = more h (are_bits_take n hs)

pub zeros_are : (n : ℕ) → AreBits (replicate n 0)
zeros_are zero = none
zeros_are (suc n) = more {b = 0} (omega arith) (zeros_are n)

pub are_bits_drop : (n : ℕ) {bs : List ℕ} → AreBits bs → AreBits (drop n bs)
are_bits_drop zero h = h
are_bits_drop (suc n) none = none
are_bits_drop (suc n) (more h hs) = are_bits_drop n hs
