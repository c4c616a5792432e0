-- `stair_parity::bit_before` meets its contract: none for row 0, else the byte before. Assumes nothing.
use mathlib.Core.Path.{◌≡◌, refl, ap}
use Prim.Native.Nat.{ℕ, zero, suc, ◌+◌, ◌-◌}
use native.Mathlib.Omega.{arith}
use mathlib.Core.List.{List}
use lib.ListN.{get_or}
use Rattle.stairs.specs.Stairs.{bit_before}
use Rattle.stair_parity.proofs.bit_before.Goals as goal

-- the byte before parity bit i, where there is one
behind : (k i : ℕ) (bytes : List ℕ) → (i ≡ 0 → ⊥) → get_or bytes (k + i - 1) 0 ≡ bit_before k i bytes
unfolding bit_before
behind k zero bytes h = absurd (h refl)
behind k (suc i) bytes h =
    let e : k + suc i - 1 ≡ k + i = omega arith in
    ap (λ (p : ℕ). get_or bytes p 0) e

pub returns-then-i-eq0 : goal.returns-then-i-eq0
unfolding bit_before
returns-then-i-eq0 c = rw c.if-i-eq0.true refl

pub overflow_sub-result : goal.overflow_sub-result
overflow_sub-result c = omega arith

pub bounds-bytes-k : goal.bounds-bytes-k
bounds-bytes-k c = omega arith

pub returns : goal.returns
returns c = behind _ _ _ c.if-i-eq0.false
