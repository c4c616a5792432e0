-- What the register takes in, and what it has not used, where a byte starts and inside one: by the test that the definitions make.
use mathlib.Core.Path.{◌≡◌, refl}
use mathlib.Core.List.{List}
use Prim.Native.Nat.{ℕ, ◌-◌, ◌*◌, ◌/◌, ◌%◌, ◌^◌}
use borrow.Author.Tests.{eq-eqb, ne_eqb}
use lib.Bits.{bit_xor}
use lib.ListN.{get_or}
use Rattle.checksum.specs.Register.{fed, unused}

module _ (m : List ℕ) (n : ℕ) where
  pub fed-start : (r : ℕ) → n % 8 ≡ 0 → fed m n r ≡ bit_xor r (get_or m (n / 8) 0 * 2 ^ 6)
  unfolding fed
  fed-start r e = rw (eq-eqb (n % 8) 0 e) refl

  pub fed-inside : (r : ℕ) → (n % 8 ≡ 0 → ⊥) → fed m n r ≡ r
  unfolding fed
  fed-inside r h = rw (ne_eqb (n % 8) 0 h) refl

  pub unused-start : n % 8 ≡ 0 → unused m n ≡ 0
  unfolding unused
  unused-start e = rw (eq-eqb (n % 8) 0 e) refl

  pub unused-inside : (n % 8 ≡ 0 → ⊥) → unused m n ≡ get_or m (n / 8) 0 % 2 ^ (8 - n % 8)
  unfolding unused
  unused-inside h = rw (ne_eqb (n % 8) 0 h) refl
