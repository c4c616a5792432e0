-- Each code's table of message positions is what the calls ask: as long as M rows of its width, every entry a message position. By computation. Assumes
-- nothing.
use mathlib.Core.Path.{◌≡◌, refl}
use mathlib.Core.Bool.{Bool, true, ◌&&◌}
use mathlib.Core.List.{List, [], ◌∷◌}
use mathlib.Mathlib.Data.Bool.Basic.{and_elim_left, and_elim_right}
use Prim.Native.Nat.{ℕ, zero, suc, ◌≤◌}
use native.Mathlib.Omega.{arith}
use borrow.Author.Tests.{ltb-true}
use lib.Dec.{ltb}
use Rattle.lists.specs.Below.{Below}
use Rattle.n512r12.proofs.Tables.{taps0}
use Rattle.n576r23.proofs.Tables.{taps1}
use Rattle.n512r34.proofs.Tables.{taps2}
use Rattle.stairs.specs.Stairs.{Stairs}

-- a test of every entry
unfoldable pub all_below : ℕ → List ℕ → Bool
all_below n [] = true
all_below n (x ∷ xs) = ltb x n && all_below n xs

pub tested : (n : ℕ) (xs : List ℕ) → all_below n xs ≡ true → Below n xs
unfolding all_below Below
tested n [] t k h = absurd (omega arith)
tested n (x ∷ xs) t zero h = ltb-true x n (and_elim_left (ltb x n) (all_below n xs) t)
tested n (x ∷ xs) t (suc k) h = tested n xs (and_elim_right (ltb x n) (all_below n xs) t) k (omega arith)

pub stairs0 : (n : ℕ) → 512 ≤ n → Stairs 256 3 256 n taps0
unfolding taps0 all_below
stairs0 n h = record { size = refl; low = tested 256 taps0 refl; room = h; few = omega arith }

pub stairs1 : (n : ℕ) → 576 ≤ n → Stairs 384 6 192 n taps1
unfolding taps1 all_below
stairs1 n h = record { size = refl; low = tested 384 taps1 refl; room = h; few = omega arith }

pub stairs2 : (n : ℕ) → 512 ≤ n → Stairs 384 9 128 n taps2
unfolding taps2 all_below
stairs2 n h = record { size = refl; low = tested 384 taps2 refl; room = h; few = omega arith }
