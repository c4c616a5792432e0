-- Bits packed into bytes and unpacked again are the same bits. By the laws of bits and of lists. Assumes nothing.
use mathlib.Core.Path.{◌≡◌, refl, sym, ap, ap₂, ◌∙◌}
use mathlib.Core.List.{List, [], ◌∷◌, ◌++◌}
use Prim.Native.Nat.{ℕ, zero, suc, ◌+◌, ◌*◌, ◌/◌, ◌%◌, ◌^◌}
use native.Mathlib.Numerals.{add-one}
use native.Mathlib.Omega.{arith}
use lib.ListN.{length, take, drop, length-drop, take-append-drop}
use lib.Pow.{shr-shr}
use lib.Seq.{length-take-le}
use Rattle.bits.specs.Bits.{bits_of, bits, number_after, number, packed}
use Rattle.bits.proofs.AreBits.{AreBits, none, more, are_bits_take, are_bits_drop}
use Rattle.bits.proofs.Digits.{Bytes}

number-above : {bs : List ℕ} (a : ℕ) → AreBits bs → number_after a bs / 2 ^ length bs ≡ a
unfolding number_after
number-above a none = omega arith
number-above a (more {b = b} {bs = bs} h hs) =
    let n = number_after (a * 2 + b) bs in
    let half : (a * 2 + b) / 2 ^ 1 ≡ a = omega arith in
    ap (λ (k : ℕ). n / 2 ^ k) (sym (add-one (length bs))) ∙ sym (shr-shr n (length bs) 1) ∙ ap (λ (x : ℕ). x / 2 ^ 1) (number-above (a * 2 + b) hs) ∙ half

bits-number : {bs : List ℕ} (a : ℕ) → AreBits bs → bits_of (length bs) (number_after a bs) ≡ bs
unfolding bits_of number_after
bits-number a none = refl
bits-number a (more {b = b} {bs = bs} h hs) =
    let first : (a * 2 + b) % 2 ≡ b = omega arith in
    ap₂ (λ (x : ℕ) (l : List ℕ). x ∷ l) (ap (λ (x : ℕ). x % 2) (number-above (a * 2 + b) hs) ∙ first) (bits-number (a * 2 + b) hs)

pub unpacked : (n : ℕ) (bs : List ℕ) → length bs ≡ 8 * n → AreBits bs → bits (packed n bs) ≡ bs
unfolding packed bits
unpacked zero [] e h = refl
unpacked zero (b ∷ bs) e h = absurd (omega arith)
unpacked (suc n) bs e h =
    let eight : length (take 8 bs) ≡ 8 = length-take-le 8 bs (omega arith) in
    let byte : bits_of 8 (number (take 8 bs)) ≡ take 8 bs = rw eight at (bits-number 0 (are_bits_take 8 h)) in
    let rest = unpacked n (drop 8 bs) (simp length-drop (omega arith)) (are_bits_drop 8 h) in
    ap₂ (λ (xs ys : List ℕ). xs ++ ys) byte rest ∙ take-append-drop 8 bs

pub packed-bytes : (n : ℕ) (bs : List ℕ) → length bs ≡ 8 * n → AreBits bs → Bytes (packed n bs)
unfolding packed
packed-bytes zero bs e h i = omega arith
packed-bytes (suc n) bs e h zero =
    let eight : length (take 8 bs) ≡ 8 = length-take-le 8 bs (omega arith) in
    let above : number (take 8 bs) / 2 ^ 8 ≡ 0 = rw eight at (number-above 0 (are_bits_take 8 h)) in
    omega (arith, above)
packed-bytes (suc n) bs e h (suc i) = packed-bytes n (drop 8 bs) (simp length-drop (omega arith)) (are_bits_drop 8 h) i
