-- The loops over bits, step by step: one more value, one more bit of the checksum, one more digit of a number.
use mathlib.Core.Path.{◌≡◌, refl, sym, ap, ◌∙◌}
use mathlib.Core.List.{List, [], ◌∷◌, ◌++◌}
use Prim.Native.Nat.{ℕ, ◌+◌, ◌-◌, ◌*◌, ◌%◌, ◌≤◌, ◌<◌, ◌^◌}
use native.Mathlib.Nat.{mod-lt}
use native.Mathlib.Numerals.{add-one}
use native.Mathlib.Decide.{dec_lt}
use native.Mathlib.Omega.{arith}
use lib.Bits.{bit_xor}
use lib.ListN.{length, get_or, take, replicate, length-append, get_or-replicate, get_or-append, get_or-eq_default}
use lib.Pow.{pow-add}
use lib.Seq.{take-suc, take_all, get_or-append-add}
use Rattle.bits.specs.Bits.{number, number_after}
use Rattle.checksum.specs.Register.{turn}
use Rattle.checksum.specs.Qex.{bring_down, divide, qex}
use Rattle.bits.proofs.Digits.{number_append}
use Rattle.checksum.proofs.Turn.{low_turn}
use Rattle.bits.proofs.AreBits.{AreBits, none, more, are_bits_append, are_bits_take, zeros_are}
use Rattle.checksum.proofs.Division.{qex-lt, qex_more}
use Rattle.tanner.specs.Checks.{low_bits}
use Rattle.tanner.proofs.Count.{low-length}

-- ---- the low bits
pub low-bits : (bs : List ℕ) → AreBits (low_bits bs)
unfolding low_bits
low-bits [] = none
low-bits (b ∷ bs) = more (mod-lt b (omega arith)) (low-bits bs)

-- ---- the checksum of the bits and five zeros, one bit more
module _ (bs : List ℕ) where
  abbrev pub padded : List ℕ
  padded = low_bits bs ++ replicate 5 0

  padded-bits : AreBits padded
  padded-bits = are_bits_append (low-bits bs) (zeros_are 5)

  pub padded-length : length padded ≡ length bs + 5
  padded-length = length-append (low_bits bs) (replicate 5 0) ∙ rw (low-length bs)

  padded-at : (i : ℕ) → i < length bs + 5 → get_or padded i 0 ≡ get_or (low_bits bs) i 0
  padded-at i h = at (dec_lt i (length bs))
    where
      at : Dec (i < length bs) → get_or padded i 0 ≡ get_or (low_bits bs) i 0
      at (yes p) = get_or-append (low_bits bs) (replicate 5 0) 0 i (rw (low-length bs) p)
      at (no p) =
          let size = low-length bs in
          let place : i ≡ length (low_bits bs) + (i - length bs) = omega arith in
          ap (λ (k : ℕ). get_or padded k 0) place ∙ get_or-append-add (low_bits bs) (replicate 5 0) (i - length bs) 0
          ∙ get_or-replicate {A = ℕ} 5 (i - length bs) 0 0 (omega arith) ∙ sym (get_or-eq_default (low_bits bs) 0 (omega arith))

  pub checksum-lt : (i : ℕ) → qex (take i padded) < 16384
  checksum-lt i = qex-lt (are_bits_take i padded-bits)

  pub checksum-start : 0 ≡ qex (take 0 padded)
  unfolding qex divide bring_down
  checksum-start = refl

  pub checksum-more : (i b : ℕ) → i < length bs + 5 → b ≡ get_or (low_bits bs) i 0 → b < 2
      → turn (bit_xor (qex (take i padded)) (b * 8192)) % 16384 ≡ qex (take (i + 1) padded)
  unfolding low_turn
  checksum-more i b h e low =
      let one : take (i + 1) padded ≡ take i padded ++ (get_or padded i 0 ∷ []) = rw (add-one i) (take-suc padded i 0 (rw padded-length h)) in
      let bit : get_or padded i 0 ≡ b = padded-at i h ∙ sym e in
      sym (ap qex (rw bit at one) ∙ qex_more b (are_bits_take i padded-bits) low)

  -- ---- a number, one digit more
  pub number_more : (i b : ℕ) → i < length bs → b ≡ get_or (low_bits bs) i 0 → number (take i (low_bits bs)) * 2 + b ≡ number (take (i + 1) (low_bits bs))
  unfolding number_after
  number_more i b h e =
      sym (rw (add-one i) (ap number (take-suc (low_bits bs) i 0 (rw (low-length bs) h)))
      ∙ number_append 0 (take i (low_bits bs)) (get_or (low_bits bs) i 0 ∷ [])
      ∙ rw e)

  pub all_digits : (i : ℕ) → length bs ≤ i → take i (low_bits bs) ≡ low_bits bs
  all_digits i h = take_all i (low_bits bs) (rw (low-length bs) h)

pub below_pow : (n b i : ℕ) → n < 2 ^ i → b < 2 → n * 2 + b < 2 ^ (i + 1)
below_pow n b i h k =
    let twice : 2 ^ (i + 1) ≡ 2 ^ i * 2 = pow-add 2 i 1 in
    omega arith
