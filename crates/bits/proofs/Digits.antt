-- The bits of numbers and of bytes: how many there are, which stands where, and that packing gives the bytes back; by induction on the lists.
use mathlib.Core.Path.{◌≡◌, refl, sym, ap, ap₂, ◌∙◌}
use mathlib.Core.List.{List, [], ◌∷◌, ◌++◌, append_assoc}
use Prim.Native.Nat.{ℕ, zero, suc, ◌+◌, ◌-◌, ◌*◌, ◌/◌, ◌%◌, ◌^◌, ◌<◌}
use native.Mathlib.Nat.{add-zero, zero-add, suc-add, add_comm, add_assoc, add-mul, mul-one, mul_assoc, mul_comm, mod-lt, mod-one, pow-suc}
use native.Mathlib.Numerals.{one-add}
use native.Mathlib.Decide.{dec_lt}
use native.Mathlib.Omega.{arith}
use lib.ListN.{length, get_or, take, length-append, get_or-append}
use lib.Pow.{pow_pos, mod-pow-add, shr-shr}
use lib.Seq.{get_or-append-add, take_at, drop_at}
use Rattle.bits.specs.Bits.{bits_of, bits, number_after, number, packed}
use Rattle.bits.proofs.AreBits.{AreBits, none, more, are_bits_append}

pub bits_of_are : (k n : ℕ) → AreBits (bits_of k n)
unfolding bits_of
bits_of_are zero n = none
bits_of_are (suc k) n = more (mod-lt (n / 2 ^ k) (pow_pos 1)) (bits_of_are k n)

pub bits_are : (m : List ℕ) → AreBits (bits m)
unfolding bits
bits_are [] = none
bits_are (b ∷ m) = are_bits_append (bits_of_are 8 b) (bits_are m)

bits_of-length : (k n : ℕ) → length (bits_of k n) ≡ k
unfolding bits_of
bits_of-length zero n = refl
bits_of-length (suc k) n = ap suc (bits_of-length k n)

pub bits-length : (m : List ℕ) → length (bits m) ≡ 8 * length m
unfolding bits
bits-length [] = refl
bits-length (b ∷ m) = length-append (bits_of 8 b) (bits m) ∙ ap₂ (λ (x y : ℕ). x + y) (bits_of-length 8 b) (bits-length m) ∙ omega arith

pub bits_append : (xs ys : List ℕ) → bits (xs ++ ys) ≡ bits xs ++ bits ys
unfolding bits
bits_append [] ys = refl
bits_append (x ∷ xs) ys = ap (λ (l : List ℕ). bits_of 8 x ++ l) (bits_append xs ys) ∙ sym (append_assoc (bits_of 8 x) (bits xs) (bits ys))

-- bit i of a number of i + 1 + j bits
bits_of_at : (k i j n : ℕ) → i + suc j ≡ k → get_or (bits_of k n) i 0 ≡ n / 2 ^ j % 2
unfolding bits_of
bits_of_at zero i j n e = absurd (omega arith)
bits_of_at (suc k) zero j n e = ap (λ (x : ℕ). n / 2 ^ x % 2) (omega arith)
bits_of_at (suc k) (suc i) j n e = bits_of_at k i j n (omega arith)

-- bit n of bytes, the first byte being b
first_at : (b : ℕ) (m : List ℕ) (n : ℕ) → n < 8 → get_or (bits (b ∷ m)) n 0 ≡ get_or (b ∷ m) (n / 8) 0 / 2 ^ (7 - n % 8) % 2
unfolding bits
first_at b m n h =
    let start : 0 ≡ n / 8 = omega arith in
    let place : 7 - n ≡ 7 - n % 8 = omega arith in
    get_or-append (bits_of 8 b) (bits m) 0 n (rw (bits_of-length 8 b) h)
    ∙ bits_of_at 8 n (7 - n) b (omega arith)
    ∙ ap₂ (λ (x y : ℕ). get_or (b ∷ m) x 0 / 2 ^ y % 2) start place

later_at : (b : ℕ) (m : List ℕ) (n : ℕ) → get_or (bits (b ∷ m)) (8 + n) 0 ≡ get_or (bits m) n 0
unfolding bits
later_at b m n = rw (bits_of-length 8 b) at (get_or-append-add (bits_of 8 b) (bits m) n 0)

-- bit n of bytes is bit 7 - n % 8 of byte n / 8
pub bits_at : (m : List ℕ) (n : ℕ) → n < 8 * length m → get_or (bits m) n 0 ≡ get_or m (n / 8) 0 / 2 ^ (7 - n % 8) % 2
bits_at [] n h = absurd (omega arith)
bits_at (b ∷ m) n h = by (dec_lt n 8) (λ k. bits_at m (n - 8) k)
  where
    by : Dec (n < 8) → (n - 8 < 8 * length m → get_or (bits m) (n - 8) 0 ≡ get_or m ((n - 8) / 8) 0 / 2 ^ (7 - (n - 8) % 8) % 2)
        → get_or (bits (b ∷ m)) n 0 ≡ get_or (b ∷ m) (n / 8) 0 / 2 ^ (7 - n % 8) % 2
    by (yes k) further = first_at b m n k
    by (no k) further =
        let past : n ≡ 8 + (n - 8) = omega arith in
        let next : suc ((n - 8) / 8) ≡ n / 8 = omega arith in
        let same : (n - 8) % 8 ≡ n % 8 = omega arith in
        ap (λ (x : ℕ). get_or (bits (b ∷ m)) x 0) past
        ∙ later_at b m (n - 8)
        ∙ further (omega arith)
        ∙ ap₂ (λ (x y : ℕ). get_or (b ∷ m) x 0 / 2 ^ (7 - y) % 2) next same

-- the upper j bits of a number, and its k low ones
pub bits_of-split : (j k n : ℕ) → bits_of (j + k) n ≡ bits_of j (n / 2 ^ k) ++ bits_of k n
unfolding bits_of
bits_of-split zero k n = ap (λ (w : ℕ). bits_of w n) (zero-add k)
bits_of-split (suc j) k n =
    ap (λ (w : ℕ). bits_of w n) (suc-add j k)
    ∙ ap₂ (λ (b : ℕ) (l : List ℕ). b % 2 ∷ l) (ap (λ (w : ℕ). n / 2 ^ w) (add_comm j k) ∙ sym (shr-shr n k j)) (bits_of-split j k n)

pub take-upper : (j k n : ℕ) → take j (bits_of (j + k) n) ≡ bits_of j (n / 2 ^ k)
take-upper j k n = ap (take j) (bits_of-split j k n) ∙ take_at (bits_of j (n / 2 ^ k)) (bits_of k n) j (bits_of-length j (n / 2 ^ k))

-- the number that the k low bits of n write behind a
pub number-bits : (k a n : ℕ) → number_after a (bits_of k n) ≡ a * 2 ^ k + n % 2 ^ k
unfolding bits_of number_after
number-bits zero a n = sym (ap₂ (λ (x y : ℕ). x + y) (mul-one a) (mod-one n) ∙ add-zero a)
number-bits (suc k) a n =
    let b = n / 2 ^ k % 2 in
    number-bits k (a * 2 + b) n
    ∙ ap (λ (x : ℕ). x + n % 2 ^ k) (add-mul (a * 2) b (2 ^ k))
    ∙ add_assoc (a * 2 * 2 ^ k) (b * 2 ^ k) (n % 2 ^ k)
    ∙ ap₂ (λ (x y : ℕ). x + y)
    (mul_assoc a 2 (2 ^ k) ∙ ap (λ (x : ℕ). a * x) (mul_comm 2 (2 ^ k) ∙ sym (pow-suc 2 k)))
    (sym (mod-pow-add n 1 k) ∙ ap (λ (x : ℕ). n % 2 ^ x) (one-add k))

pub number_append : (a : ℕ) (xs ys : List ℕ) → number_after a (xs ++ ys) ≡ number_after (number_after a xs) ys
unfolding number_after
number_append a [] ys = refl
number_append a (x ∷ xs) ys = number_append (a * 2 + x) xs ys

-- each element is a byte
abbrev pub Bytes : List ℕ → Type 0
Bytes m = (i : ℕ) → get_or m i 0 < 256

pub bytes_take : (n : ℕ) (m : List ℕ) → Bytes m → Bytes (take n m)
bytes_take zero m h i = omega arith
bytes_take (suc n) [] h i = h i
bytes_take (suc n) (x ∷ m) h zero = h 0
bytes_take (suc n) (x ∷ m) h (suc i) = bytes_take n m (λ k. h (suc k)) i

pub bytes_append : (xs ys : List ℕ) → Bytes xs → Bytes ys → Bytes (xs ++ ys)
bytes_append [] ys h k i = k i
bytes_append (x ∷ xs) ys h k zero = h 0
bytes_append (x ∷ xs) ys h k (suc i) = bytes_append xs ys (λ j. h (suc j)) k i

-- packing gives bytes back
pub packed-bits : (xs ys : List ℕ) (k : ℕ) → Bytes xs → packed (length xs + k) (bits xs ++ ys) ≡ xs ++ packed k ys
unfolding packed bits
packed-bits [] ys k bytes = ap (λ (n : ℕ). packed n ys) (zero-add k)
packed-bits (x ∷ xs) ys k bytes =
    let long = bits_of-length 8 x in
    let whole : number (bits_of 8 x) ≡ x = number-bits 8 0 x ∙ mod-small (bytes 0) in
    ap₂ (λ (n : ℕ) (l : List ℕ). packed n l) (suc-add (length xs) k) (append_assoc (bits_of 8 x) (bits xs) ys)
    ∙ ap₂ (λ (b : ℕ) (l : List ℕ). b ∷ l)
    (ap number (take_at (bits_of 8 x) (bits xs ++ ys) 8 long) ∙ whole)
    (ap (packed (length xs + k)) (drop_at (bits_of 8 x) (bits xs ++ ys) 8 long) ∙ packed-bits xs ys k (λ i. bytes (suc i)))
  where
    mod-small : x < 256 → 0 * 2 ^ 8 + x % 2 ^ 8 ≡ x
    mod-small h = omega arith
