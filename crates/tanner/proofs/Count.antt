-- The laws of counting, for any check list: what each mask counts, and which part of a word matters. By induction over the checks. Assumes nothing.
use mathlib.Core.Path.{◌≡◌, refl, ap, ◌∙◌}
use mathlib.Core.List.{List, [], ◌∷◌, ◌++◌}
use Prim.Native.Nat.{ℕ, zero, suc, ◌+◌, ◌%◌, ◌^◌, ◌<◌}
use native.Mathlib.Omega.{arith}
use lib.Bits.{bit_and, bit_xor, and_mask, xor_add_and, xor_lt}
use lib.ListN.{length, get_or, take, length-map, get_or-map}
use lib.Seq.{get_or-take}
use Rattle.tanner.specs.Checks.{Word, Checks, parity, count, low_bits, xor_from, nonzero, count_bytes}
use Rattle.tanner.specs.Masked.{count_masked}
use Rattle.lists.specs.Below.{Below}
use Rattle.lists.proofs.Below.{below_at}

-- ---- parity and count

pub parity_bit : (ps : List ℕ) (w : Word) → parity ps w < 2
unfolding parity
parity_bit [] w = omega arith
parity_bit (p ∷ ps) w = omega arith

-- ---- the low bits

pub low_at : (bytes : List ℕ) (p : ℕ) → get_or (low_bits bytes) p 0 ≡ get_or bytes p 0 % 2
unfolding low_bits
low_at bytes p = get_or-map (λ (b : ℕ). b % 2) bytes p 0

pub low-length : (bytes : List ℕ) → length (low_bits bytes) ≡ length bytes
unfolding low_bits
low-length bytes = length-map bytes (λ (b : ℕ). b % 2)

pub low_append : (xs ys : List ℕ) → low_bits (xs ++ ys) ≡ low_bits xs ++ low_bits ys
unfolding low_bits
low_append [] ys = refl
low_append (x ∷ xs) ys = ap (λ (l : List ℕ). (x % 2) ∷ l) (low_append xs ys)

pub low-take : (n : ℕ) (bytes : List ℕ) → low_bits (take n bytes) ≡ take n (low_bits bytes)
unfolding low_bits
low-take zero bytes = refl
low-take (suc n) [] = refl
low-take (suc n) (b ∷ bytes) = ap (λ (l : List ℕ). (b % 2) ∷ l) (low-take n bytes)

pub xor_low : (a b : ℕ) → bit_xor a b % 2 ≡ (a + b) % 2
xor_low a b = omega (arith, xor_add_and a b)

odd_outside : (x b q : ℕ) → (x + (b % 2 + q) % 2) % 2 ≡ (x + b + q) % 2
odd_outside x b q = omega arith

odd_alike : (u v q : ℕ) → u % 2 ≡ v % 2 → (u + q) % 2 ≡ (v + q) % 2
odd_alike u v q e = omega arith

xor-parity : (x : ℕ) (ps bytes : List ℕ) → xor_from x ps bytes % 2 ≡ (x + parity ps (low_bits bytes)) % 2
unfolding xor_from parity
xor-parity x [] bytes = omega arith
xor-parity x (p ∷ ps) bytes =
    let b = get_or bytes p 0 in
    let q = parity ps (low_bits bytes) in
    rw (low_at bytes p, odd_outside x b q) (xor-parity (bit_xor x b) ps bytes ∙ odd_alike (bit_xor x b) (x + b) q (xor_low x b))

pub nonzero_bit : (x : ℕ) → x < 2 → nonzero x ≡ x
nonzero_bit zero h = refl
nonzero_bit (suc zero) h = refl
nonzero_bit (suc (suc x)) h = absurd (omega arith)

-- of one check
pub low-check : (c bytes : List ℕ) → nonzero (bit_and (xor_from 0 c bytes) 1) ≡ parity c (low_bits bytes)
low-check c bytes =
    let b : bit_and (xor_from 0 c bytes) 1 ≡ parity c (low_bits bytes) =
    omega (arith, and_mask (xor_from 0 c bytes) 1, xor-parity 0 c bytes, parity_bit c (low_bits bytes))
    in
    rw b (nonzero_bit (parity c (low_bits bytes)) (parity_bit c (low_bits bytes)))

pub low_count : (cs : Checks) (bytes : List ℕ) → count_masked 1 cs bytes ≡ count cs (low_bits bytes)
unfolding count_masked count
low_count [] bytes = refl
low_count (c ∷ cs) bytes = rw (low-check c bytes, low_count cs bytes)

-- ---- whole bytes

xor_below : (k n : ℕ) → 2 ^ k ≡ suc n → (x : ℕ) (ps bytes : List ℕ) → x < 2 ^ k → Below (suc n) bytes → xor_from x ps bytes < 2 ^ k
unfolding xor_from
xor_below k n e x [] bytes h l = h
xor_below k n e x (p ∷ ps) bytes h l =
    xor_below k n e (bit_xor x (get_or bytes p 0)) ps bytes (xor_lt k x (get_or bytes p 0) h (rw e (below_at n bytes p l))) l

-- of one check
pub byte_check : (c bytes : List ℕ) → Below 256 bytes → nonzero (bit_and (xor_from 0 c bytes) 255) ≡ nonzero (xor_from 0 c bytes)
byte_check c bytes l =
    let b : bit_and (xor_from 0 c bytes) 255 ≡ xor_from 0 c bytes =
    omega (arith, and_mask (xor_from 0 c bytes) 8, xor_below 8 255 refl 0 c bytes (omega arith) l)
    in
    rw b

pub byte_count : (cs : Checks) (bytes : List ℕ) → Below 256 bytes → count_masked 255 cs bytes ≡ count_bytes cs bytes
unfolding count_masked count_bytes
byte_count [] bytes l = refl
byte_count (c ∷ cs) bytes l = rw (byte_check c bytes l, byte_count cs bytes l)

-- on words of bits, whole bytes and low bits count alike

pub bits-low : (w : Word) → Below 2 w → low_bits w ≡ w
unfolding low_bits Below
bits-low [] h = refl
bits-low (b ∷ w) h =
    let e : b % 2 ≡ b = omega (arith, h 0 (omega arith)) in
    rw (e, bits-low w (λ k l. h (suc k) (omega arith)))

pub bits-count : (cs : Checks) (w : Word) → Below 2 w → count_bytes cs w ≡ count cs w
unfolding count_bytes count
bits-count [] w l = refl
bits-count (c ∷ cs) w l =
    let x : xor_from 0 c w ≡ parity c w =
    omega (arith, xor_below 1 1 refl 0 c w (omega arith) l, rw (bits-low w l) at (xor-parity 0 c w), parity_bit c w)
    in
    rw (x, bits-count cs w l, nonzero_bit (parity c w) (parity_bit c w))

-- ---- only the positions below n matter, where every check covers such alone

pub parity-front : (n : ℕ) (ps : List ℕ) (w : Word) → Below n ps → parity ps (take n w) ≡ parity ps w
unfolding parity Below
parity-front n [] w l = refl
parity-front n (p ∷ ps) w l =
    rw (get_or-take n w p 0 (l 0 (omega arith)), parity-front n ps w (λ k h. l (suc k) (omega arith)))

pub data AllBelow (n : ℕ) : Checks → Type 0 where
  none : AllBelow n []
  more : {c : List ℕ} {cs : Checks} → Below n c → AllBelow n cs → AllBelow n (c ∷ cs)

pub count-front : (n : ℕ) {cs : Checks} (w : Word) → AllBelow n cs → count cs (take n w) ≡ count cs w
unfolding count
count-front n w none = refl
count-front n w (more {c = c} l ls) = rw (parity-front n c w l, count-front n w ls)
