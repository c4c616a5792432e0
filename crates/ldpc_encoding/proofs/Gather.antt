-- Parity bits gathered in a byte are the number that they write, and the parity bits of all rows are those of the definition.
-- By induction over the bits and the rows. Assumes nothing.
use mathlib.Core.Path.{◌≡◌, refl, sym, ap, ap₂, ◌∙◌}
use mathlib.Core.List.{List, [], ◌∷◌, ◌++◌, map}
use Prim.Native.Nat.{ℕ, zero, suc, ◌+◌, ◌-◌, ◌*◌, ◌%◌, ◌^◌, ◌<◌, ◌≤◌}
use native.Mathlib.Nat.{add-zero, zero-add, add-suc, suc-add, pow-suc, lt_of_lt_of_le}
use native.Mathlib.Numerals.{add-one}
use native.Mathlib.Omega.{arith}
use lib.Bits.{bit_or, or_shifted}
use lib.ListN.{length, take, drop, replicate, length-drop}
use lib.Pow.{pow_mono}
use lib.Seq.{drop-drop, length-take-le}
use Rattle.bits.specs.Bits.{bits, number_after, number}
use Rattle.bits.proofs.Digits.{number_append}
use Rattle.ldpc_encoding.specs.Bytes.{byte_parity, mixed, parity_at, gathered}
use Rattle.ldpc_encoding.specs.Encoding.{under, rows_of_twelve}
use Rattle.ldpc_encoding.proofs.Parity.{byte_bit, row-parity, under-front}

-- ---- the answers of f at k numbers from a on

unfoldable pub run : (ℕ → ℕ) → ℕ → ℕ → List ℕ
run f a zero = []
run f a (suc k) = f a ∷ run f (suc a) k

pub run_length : (f : ℕ → ℕ) (a k : ℕ) → length (run f a k) ≡ k
unfolding run
run_length f a zero = refl
run_length f a (suc k) = ap suc (run_length f (suc a) k)

pub run_split : (f : ℕ → ℕ) (a j k : ℕ) → run f a (j + k) ≡ run f a j ++ run f (a + j) k
unfolding run
run_split f a zero k = ap₂ (λ (b n : ℕ). run f b n) (sym (add-zero a)) (zero-add k)
run_split f a (suc j) k =
    ap (λ (n : ℕ). run f a n) (suc-add j k)
    ∙ ap (λ (l : List ℕ). f a ∷ l) (run_split f (suc a) j k ∙ ap (λ (b : ℕ). run f (suc a) j ++ run f b k) (suc-add a j ∙ sym (add-suc a j)))

run_last : (f : ℕ → ℕ) (a k : ℕ) → run f a (suc k) ≡ run f a k ++ f (a + k) ∷ []
unfolding run
run_last f a k = ap (λ (n : ℕ). run f a n) (sym (add-one k)) ∙ run_split f a k 1

-- ---- a turn of the gathering loop

pub gathered_more : (g m : List ℕ) (a i byte x p : ℕ) → byte ≡ gathered g m a i
    → x ≡ mixed 0 (take (12 * (a + i) + 12 - 12 * (a + i)) (drop (12 * (a + i)) g)) m → p ≡ byte_parity x
    → bit_or (byte * 2 ^ 1 % 2 ^ 8) p ≡ gathered g m a (i + 1)
unfolding gathered parity_at
gathered_more g m a i byte x p e h t =
    let k : 12 * (a + i) + 12 - 12 * (a + i) ≡ 12 = omega arith in
    rw (add-one, t, h, e, k)

-- ---- gathered bits as a number

number_last : (f : ℕ → ℕ) (a k : ℕ) → number (run f a (suc k)) ≡ number (run f a k) * 2 + f (a + k)
unfolding number_after
number_last f a k = ap number (run_last f a k) ∙ number_append 0 (run f a k) (f (a + k) ∷ [])

pub number_lt : (f : ℕ → ℕ) → ((i : ℕ) → f i < 2) → (a k : ℕ) → number (run f a k) < 2 ^ k
unfolding run number_after
number_lt f bit a zero = omega arith
number_lt f bit a (suc k) = rw (number_last f a k, pow-suc 2 k) (omega (arith, number_lt f bit a k, bit (a + k)))

pub parity_bit : (g m : List ℕ) (i : ℕ) → parity_at g m i < 2
unfolding parity_at
parity_bit g m i = byte_bit (mixed 0 (take 12 (drop (12 * i) g)) m)

pub gathered-number : (g m : List ℕ) (a k : ℕ) → k ≤ 8 → gathered g m a k ≡ number (run (parity_at g m) a k)
unfolding gathered run number_after
gathered-number g m a zero h = refl
gathered-number g m a (suc k) h =
    let f = parity_at g m in
    let n = number (run f a k) in
    let small : n < 2 ^ 7 = lt_of_lt_of_le (number_lt f (parity_bit g m) a k) (pow_mono {i = k} {j = 7} (omega arith)) in
    let fits : n * 2 ^ 1 % 2 ^ 8 ≡ n * 2 ^ 1 = omega arith in
    ap (λ (x : ℕ). bit_or (x * 2 ^ 1 % 2 ^ 8) (f (a + k))) (gathered-number g m a k (omega arith))
    ∙ ap (λ (x : ℕ). bit_or x (f (a + k))) fits
    ∙ or_shifted n 1 (f (a + k)) (parity_bit g m (a + k))
    ∙ sym (number_last f a k)

-- ---- the parity bits of the definition, for a message that has zeros alone past its 91 bits

module _ (g m : List ℕ) (size : length m ≡ 12) (slack : drop 91 (bits m) ≡ replicate 5 0) where
  parity-under : (a : ℕ) → 12 * suc a ≤ length g → parity_at g m a ≡ under (take 91 (bits (take 12 (drop (12 * a) g)))) (take 91 (bits m))
  unfolding parity_at
  parity-under a h =
      let row = take 12 (drop (12 * a) g) in
      let twelve : length row ≡ 12 = length-take-le 12 (drop (12 * a) g) (rw (length-drop (12 * a) g) (omega arith)) in
      row-parity row m (twelve ∙ sym size) ∙ under-front 91 5 (bits row) (bits m) slack

  pub rows-parities : (a n : ℕ) → 12 * (a + n) ≤ length g
      → map (λ (row : List ℕ). under row (take 91 (bits m))) (rows_of_twelve n (drop (12 * a) g)) ≡ run (parity_at g m) a n
  unfolding rows_of_twelve run
  rows-parities a zero h = refl
  rows-parities a (suc n) h =
      let next : 12 * a + 12 ≡ 12 * suc a = omega arith in
      ap₂ (λ (b : ℕ) (l : List ℕ). b ∷ l)
      (sym (parity-under a (omega arith)))
      (ap (λ (l : List ℕ). map (λ (row : List ℕ). under row (take 91 (bits m))) (rows_of_twelve n l)) (drop-drop 12 (12 * a) g ∙ ap (λ (k : ℕ). drop k g) next)
      ∙ rows-parities (suc a) n (omega arith))
