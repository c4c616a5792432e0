-- Parity of bytes: AND and XOR of bytes are products and sums of bits modulo 2, so mixed bytes have the parity of the message under the row.
-- By induction over the bits and the bytes. Assumes nothing.
use mathlib.Core.Path.{◌≡◌, refl, sym, ap, ◌∙◌}
use mathlib.Core.List.{List, [], ◌∷◌, ◌++◌}
use Prim.Native.Nat.{ℕ, zero, suc, ◌+◌, ◌*◌, ◌/◌, ◌%◌, ◌^◌, ◌<◌}
use native.Mathlib.Nat.{mod-lt, zero-mul, mul-zero}
use native.Mathlib.Omega.{arith}
use borrow.Author.Tests.{eqb-true}
use lib.Bits.{bit_and, bit_xor, and_shr, and_mod, xor_shr, xor_add_and}
use lib.Dec.{eqb}
use lib.ListN.{length, take, drop, replicate}
use Rattle.std.proofs.Common.{◌⊎◌, inl, inr}
use Rattle.bits.specs.Bits.{bits_of, bits}
use Rattle.code174.specs.Agreement.{each}
use Rattle.ldpc_encoding.specs.Bytes.{odd, byte_parity, mixed}
use Rattle.ldpc_encoding.specs.Encoding.{under}
use Rattle.code174.proofs.Tests.{each_at}

-- ---- a byte folded onto its low bit, as the code does: all 256 bytes

abbrev pub folded : ℕ → ℕ
folded x =
    let a = bit_xor x (x / 2 ^ 4) in
    let b = bit_xor a (a / 2 ^ 2) in
    bit_xor b (b / 2 ^ 1) % 2

pub folded_parity : (x : ℕ) → x < 256 → folded x ≡ byte_parity x
unfolding byte_parity odd bits_of each
folded_parity x h = eqb-true _ _ (each_at 256 (λ (n : ℕ). eqb (folded n) (byte_parity n)) refl x h)

-- ---- bits of AND and of XOR

and_bits : (x y : ℕ) → x < 2 → y < 2 → bit_and x y ≡ x * y
and_bits zero y h k = sym (zero-mul y)
and_bits (suc zero) zero h k = refl
and_bits (suc zero) (suc zero) h k = refl
and_bits (suc zero) (suc (suc y)) h k = absurd (omega arith)
and_bits (suc (suc x)) y h k = absurd (omega arith)

and_bit : (a b k : ℕ) → bit_and a b / 2 ^ k % 2 ≡ a / 2 ^ k % 2 * (b / 2 ^ k % 2)
and_bit a b k =
    ap (λ (n : ℕ). n % 2) (and_shr a b k)
    ∙ and_mod (a / 2 ^ k) (b / 2 ^ k) 1
    ∙ and_bits (a / 2 ^ k % 2) (b / 2 ^ k % 2) (omega arith) (omega arith)

xor_bit : (a b k : ℕ) → bit_xor a b / 2 ^ k % 2 ≡ (a / 2 ^ k % 2 + b / 2 ^ k % 2) % 2
xor_bit a b k =
    let x = a / 2 ^ k in
    let y = b / 2 ^ k in
    let low : bit_xor x y % 2 ≡ (x % 2 + y % 2) % 2 = omega (arith, xor_add_and x y) in
    ap (λ (n : ℕ). n % 2) (xor_shr a b k) ∙ low

odd_bit : (bs : List ℕ) → odd bs < 2
unfolding odd
odd_bit [] = omega arith
odd_bit (b ∷ bs) = omega arith

pub byte_bit : (x : ℕ) → byte_parity x < 2
unfolding byte_parity
byte_bit x = odd_bit (bits_of 8 x)

pub under_bit : (gs bs : List ℕ) → under gs bs < 2
unfolding under
under_bit [] bs = omega arith
under_bit (g ∷ gs) [] = omega arith
under_bit (g ∷ gs) (b ∷ bs) = mod-lt (g * b + under gs bs) (omega arith)

-- sums modulo 2, regrouped
sum-odd : (x y : ℕ) → (x % 2 + y % 2) % 2 ≡ (x + y) % 2
sum-odd x y = omega arith

exchange : (p q r s : ℕ) → ((p + q) % 2 + (r + s) % 2) % 2 ≡ ((p + r) % 2 + (q + s) % 2) % 2
exchange p q r s =
    let same : p + q + (r + s) ≡ p + r + (q + s) = omega arith in
    sum-odd (p + q) (r + s) ∙ ap (λ (n : ℕ). n % 2) same ∙ sym (sum-odd (p + r) (q + s))

regroup : (o p u : ℕ) → ((o + p) % 2 + u) % 2 ≡ (o + (p + u) % 2) % 2
regroup o p u = omega arith

odd-xor : (k a b : ℕ) → odd (bits_of k (bit_xor a b)) ≡ (odd (bits_of k a) + odd (bits_of k b)) % 2
unfolding odd bits_of
odd-xor zero a b = refl
odd-xor (suc k) a b = rw (xor_bit a b k, odd-xor k a b) (exchange (a / 2 ^ k % 2) (b / 2 ^ k % 2) (odd (bits_of k a)) (odd (bits_of k b)))

odd_and : (k a b : ℕ) → odd (bits_of k (bit_and a b)) ≡ under (bits_of k a) (bits_of k b)
unfolding odd bits_of under
odd_and zero a b = refl
odd_and (suc k) a b = rw (and_bit a b k, odd_and k a b)

-- ---- the message under a row, part by part

under_append : (gs bs hs cs : List ℕ) → length gs ≡ length bs → under (gs ++ hs) (bs ++ cs) ≡ (under gs bs + under hs cs) % 2
unfolding under
under_append [] [] hs cs e = omega (arith, under_bit hs cs)
under_append [] (b ∷ bs) hs cs e = absurd (omega arith)
under_append (g ∷ gs) [] hs cs e = absurd (omega arith)
under_append (g ∷ gs) (b ∷ bs) hs cs e =
    let rest : under (gs ++ hs) (bs ++ cs) ≡ (under gs bs + under hs cs) % 2 = under_append gs bs hs cs (omega arith) in
    rw rest (omega arith)

under_zeros : (gs : List ℕ) (k : ℕ) → under gs (replicate k 0) ≡ 0
unfolding under
under_zeros [] k = refl
under_zeros (g ∷ gs) zero = refl
under_zeros (g ∷ gs) (suc k) = rw (mul-zero g, under_zeros gs k)

-- zeros at the end of the message change nothing
pub under-front : (n k : ℕ) (gs bs : List ℕ) → drop n bs ≡ replicate k 0 → under gs bs ≡ under (take n gs) (take n bs)
unfolding under
under-front zero k gs bs e = rw e (under_zeros gs k)
under-front (suc n) k [] bs e = refl
under-front (suc n) k (g ∷ gs) [] e = refl
under-front (suc n) k (g ∷ gs) (b ∷ bs) e = rw (under-front n k gs bs e)

-- ---- mixed bytes

same_lengths : (a b : ℕ) → length (bits_of 8 a) ≡ length (bits_of 8 b)
unfolding bits_of
same_lengths a b = refl

mixed-parity : (x : ℕ) (gs bs : List ℕ) → length gs ≡ length bs → byte_parity (mixed x gs bs) ≡ (byte_parity x + under (bits gs) (bits bs)) % 2
unfolding mixed byte_parity bits under
mixed-parity x [] bs e = omega (arith, odd_bit (bits_of 8 x))
mixed-parity x (g ∷ gs) [] e = absurd (omega arith)
mixed-parity x (g ∷ gs) (b ∷ bs) e =
    let o = odd (bits_of 8 x) in
    let u = under (bits gs) (bits bs) in
    mixed-parity (bit_xor x (bit_and g b)) gs bs (omega arith)
    ∙ ap (λ (n : ℕ). (n + u) % 2) (odd-xor 8 x (bit_and g b) ∙ ap (λ (n : ℕ). (o + n) % 2) (odd_and 8 g b))
    ∙ regroup o (under (bits_of 8 g) (bits_of 8 b)) u
    ∙ sym (ap (λ (n : ℕ). (o + n) % 2) (under_append (bits_of 8 g) (bits_of 8 b) (bits gs) (bits bs) (same_lengths g b)))

pub row-parity : (gs bs : List ℕ) → length gs ≡ length bs → byte_parity (mixed 0 gs bs) ≡ under (bits gs) (bits bs)
unfolding byte_parity odd bits_of
row-parity gs bs e = mixed-parity 0 gs bs e ∙ omega (arith, under_bit (bits gs) (bits bs))

-- ---- a turn of the mixing loop: what is left of the row and of the message

pub mixed_more : {gs bs hs cs : List ℕ} (x g b z : ℕ) → gs ≡ g ∷ hs → bs ≡ b ∷ cs → mixed x gs bs ≡ z → mixed (bit_xor x (bit_and g b)) hs cs ≡ z
unfolding mixed
mixed_more x g b z e f t = rw (e, f) at t

pub mixed-done : (gs bs : List ℕ) (x z : ℕ) → (gs ≡ []) ⊎ (bs ≡ []) → mixed x gs bs ≡ z → x ≡ z
unfolding mixed
mixed-done [] bs x z e t = t
mixed-done (g ∷ gs) [] x z e t = t
mixed-done (g ∷ gs) (b ∷ bs) x z (inl e) t = cc
mixed-done (g ∷ gs) (b ∷ bs) x z (inr e) t = cc
