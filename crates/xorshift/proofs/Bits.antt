-- The machine's exclusive or is the one that a draw is defined by, bit after bit. Assumes nothing.
use mathlib.Core.Path.{◌≡◌, refl, ap, ◌∙◌}
use Prim.Native.Nat.{ℕ, zero, suc, ◌+◌, ◌/◌, ◌%◌, ◌^◌, ◌<◌}
use native.Mathlib.Nat.{pow-suc, add-mod, mod-lt}
use native.Mathlib.Omega.{arith}
use lib.Bits.{bit_xor, differ, xor_step, xor_zero_l, xor_lt}
use Rattle.xorshift.specs.Draw.{xor, left, right, mixed, draw}

differ-sum : (x y : ℕ) → x < 2 → y < 2 → differ x y ≡ (x + y) % 2
differ-sum zero zero h k = refl
differ-sum zero (suc zero) h k = refl
differ-sum (suc zero) zero h k = refl
differ-sum (suc zero) (suc zero) h k = refl
differ-sum (suc (suc x)) y h k = absurd (omega arith)
differ-sum zero (suc (suc y)) h k = absurd (omega arith)
differ-sum (suc zero) (suc (suc y)) h k = absurd (omega arith)

pub xor-bits : (n a b : ℕ) → a < 2 ^ n → b < 2 ^ n → bit_xor a b ≡ xor n a b
unfolding xor
xor-bits zero a b h k =
    let p : a ≡ 0 = omega arith in
    let q : b ≡ 0 = omega arith in
    rw (p, q) (xor_zero_l 0)
xor-bits (suc n) a b h k =
    let e = pow-suc 2 n in
    let same = xor-bits n (a / 2) (b / 2) (omega arith) (omega arith) in
    xor_step a b ∙ rw (same, differ-sum (a % 2) (b % 2) (omega arith) (omega arith), ← add-mod a b 2)

mixed-bits : (shift : ℕ → ℕ) (s x : ℕ) → s < 2 ^ 64 → x < 2 ^ 64 → x ≡ shift s → bit_xor s x ≡ mixed shift s
unfolding mixed
mixed-bits shift s x h k e = rw (← e) (xor-bits 64 s x h k)

pub draw-bits : (s x y : ℕ) → s < 2 ^ 64 → x ≡ left 13 s → y ≡ left 17 (bit_xor (bit_xor s x) (bit_xor s x / 2 ^ 7))
    → bit_xor (bit_xor (bit_xor s x) (bit_xor s x / 2 ^ 7)) y ≡ draw s
unfolding draw
draw-bits s x y h p q =
    let a = bit_xor s x in
    let b = bit_xor a (a / 2 ^ 7) in
    let x_fits : x < 2 ^ 64 = rw p (mod-lt _ (omega arith)) in
    let a-fits : a < 2 ^ 64 = xor_lt 64 s x h x_fits in
    let c-fits : a / 2 ^ 7 < 2 ^ 64 = omega arith in
    let b-fits : b < 2 ^ 64 = xor_lt 64 a (a / 2 ^ 7) a-fits c-fits in
    let y-fits : y < 2 ^ 64 = rw q (mod-lt _ (omega arith)) in
    let one : a ≡ mixed (left 13) s = mixed-bits (left 13) s x h x_fits p in
    let two : b ≡ mixed (right 7) a = mixed-bits (right 7) a (a / 2 ^ 7) a-fits c-fits refl in
    mixed-bits (left 17) b y b-fits y-fits q ∙ ap (mixed (left 17)) (two ∙ ap (mixed (right 7)) one)
