-- Document 01's cases of the staircase count, for each of the three codes: "last bit alone: 1", "Bit K alone: 2",
-- "Message bit 0 alone: 3, but 0 if its byte is 2".
-- A word with one bit counts the checks that name its place an odd number of times, which is computed from the checks.
use mathlib.Core.Path.{◌≡◌, refl, ◌∙◌}
use mathlib.Core.Bool.{Bool, true, false, cond}
use mathlib.Core.List.{List, [], ◌∷◌}
use Prim.Native.Nat.{ℕ, zero, suc, ◌+◌, ◌-◌, ◌%◌, ◌≤◌}
use native.Mathlib.Omega.{arith}
use borrow.Author.Tests.{ne_eqb}
use lib.Dec.{eqb, eqb-suc-suc}
use lib.ListN.{length, get_or, take, replicate, length-append, length-replicate}
use lib.Seq.{take_all}
use Rattle.columns.specs.Rows.{times, holds}
use Rattle.tanner.specs.Checks.{Word, Checks, parity, count, low_bits}
use Rattle.tanner.proofs.Count.{low_at}
use Rattle.staircase.specs.Staircase.{taps, parity_entries, check_row, check_rows}
use Rattle.ldpc_codes.specs.Calls.{syndrome_by}
use Rattle.staircase.specs.Codes.{code_of, checks}
use Rattle.slots.specs.Layout.{threes}
use Rattle.staircase.proofs.Laid.{checks-right}
use Rattle.n512r12.proofs.Rows.{rows0}
use Rattle.n576r23.proofs.Rows.{rows1}
use Rattle.n512r34.proofs.Rows.{rows2}
use Rattle.n512r12.proofs.Rows.{built0}
use Rattle.n576r23.proofs.Rows.{built1}
use Rattle.n512r34.proofs.Rows.{built2}
use Rattle.known_cases.specs.Cases.{alone}

zero_get_d : (n i : ℕ) → get_or (replicate {A = ℕ} n 0) i 0 ≡ 0
zero_get_d zero i = refl
zero_get_d (suc n) zero = refl
zero_get_d (suc n) (suc i) = zero_get_d n i

alone_at : (p x q i : ℕ) → get_or (alone p x q) i 0 ≡ cond (eqb i p) x 0
alone_at zero x q zero = refl
alone_at zero x q (suc i) = rw (ne_eqb (suc i) 0 (λ e. omega arith)) (zero_get_d q i)
alone_at (suc p) x q zero = rw (ne_eqb 0 (suc p) (λ e. omega arith))
alone_at (suc p) x q (suc i) = alone_at p x q i ∙ rw (eqb-suc-suc i p)

-- ---- a word with one bit
OneAt : ℕ → Word → Type 0
OneAt p w = (i : ℕ) → get_or w i 0 ≡ cond (eqb i p) 1 0

Zeros : Word → Type 0
Zeros w = (i : ℕ) → get_or w i 0 ≡ 0

odd_rows : Checks → ℕ → ℕ
odd_rows [] p = 0
odd_rows (c ∷ cs) p = times c p % 2 + odd_rows cs p

one_parity : (c : List ℕ) (p : ℕ) (w : Word) → OneAt p w → parity c w ≡ times c p % 2
unfolding parity times OneAt
one_parity [] p w h = refl
one_parity (r ∷ rs) p w h = rw (h r, one_parity rs p w h) (omega arith)

one_count : (cs : Checks) (p : ℕ) (w : Word) → OneAt p w → count cs w ≡ odd_rows cs p
unfolding count odd_rows
one_count [] p w h = refl
one_count (c ∷ cs) p w h = rw (one_parity c p w h, one_count cs p w h)

zero-parity : (c : List ℕ) (w : Word) → Zeros w → parity c w ≡ 0
unfolding parity Zeros
zero-parity [] w h = refl
zero-parity (r ∷ rs) w h = rw (h r, zero-parity rs w h)

zero-count : (cs : Checks) (w : Word) → Zeros w → count cs w ≡ 0
unfolding count
zero-count [] w h = refl
zero-count (c ∷ cs) w h = rw (zero-parity c w h, zero-count cs w h)

if_odd : (b : Bool) → cond b 1 0 % 2 ≡ cond b 1 0
if_odd true = refl
if_odd false = refl

if_even : (b : Bool) → cond b 2 0 % 2 ≡ 0
if_even true = refl
if_even false = refl

alone-length : (n p x q : ℕ) → n ≡ p + suc q → length (alone p x q) ≤ n
alone-length n p x q e =
    omega (arith, length-append (replicate p 0) (x ∷ replicate q 0), length-replicate {A = ℕ} p 0, length-replicate {A = ℕ} q 0)

-- the count of a byte alone, by its low bit
one_alone : (cs : Checks) (n p q : ℕ) → n ≡ p + suc q → count cs (low_bits (take n (alone p 1 q))) ≡ odd_rows cs p
unfolding OneAt
one_alone cs n p q e =
    rw (take_all n (alone p 1 q) (alone-length n p 1 q e))
    (one_count cs p (low_bits (alone p 1 q)) (λ i. low_at (alone p 1 q) i ∙ rw (alone_at p 1 q i) (if_odd (eqb i p))))

two_alone : (cs : Checks) (n p q : ℕ) → n ≡ p + suc q → count cs (low_bits (take n (alone p 2 q))) ≡ 0
unfolding Zeros
two_alone cs n p q e =
    rw (take_all n (alone p 2 q) (alone-length n p 2 q e))
    (zero-count cs (low_bits (alone p 2 q)) (λ i. low_at (alone p 2 q) i ∙ rw (alone_at p 2 q i) (if_even (eqb i p))))

-- ---- the cases of a code with k message bits and m parity bits
pub record Cases (code k m : ℕ) : Type 0 where
  pub last_bit : (syndrome_by code (alone (k + m - 1) 1 0)).count ≡ 1
  pub bit_k : (syndrome_by code (alone k 1 (m - 1))).count ≡ 2
  pub message_bit : (syndrome_by code (alone 0 1 (k + m - 1))).count ≡ 3
  pub byte_two : (syndrome_by code (alone 0 2 (k + m - 1))).count ≡ 0

odd0 : (p : ℕ) → odd_rows (checks (code_of 0)) p ≡ odd_rows (check_rows 256 (threes rows0) 0 256) p
odd0 p = rw (checks-right built0)

odd1 : (p : ℕ) → odd_rows (checks (code_of 1)) p ≡ odd_rows (check_rows 384 (threes rows1) 0 192) p
odd1 p = rw (checks-right built1)

odd2 : (p : ℕ) → odd_rows (checks (code_of 2)) p ≡ odd_rows (check_rows 384 (threes rows2) 0 128) p
odd2 p = rw (checks-right built2)

pub cases0 : Cases 0 256 256
unfolding odd_rows times check_rows check_row taps parity_entries holds rows0 threes
cases0 = record {
  last_bit = one_alone (checks (code_of 0)) 512 511 0 refl ∙ odd0 511;
  bit_k = one_alone (checks (code_of 0)) 512 256 255 refl ∙ odd0 256;
  message_bit = one_alone (checks (code_of 0)) 512 0 511 refl ∙ odd0 0;
  byte_two = two_alone (checks (code_of 0)) 512 0 511 refl;
}

pub cases1 : Cases 1 384 192
unfolding odd_rows times check_rows check_row taps parity_entries holds rows1 threes
cases1 = record {
  last_bit = one_alone (checks (code_of 1)) 576 575 0 refl ∙ odd1 575;
  bit_k = one_alone (checks (code_of 1)) 576 384 191 refl ∙ odd1 384;
  message_bit = one_alone (checks (code_of 1)) 576 0 575 refl ∙ odd1 0;
  byte_two = two_alone (checks (code_of 1)) 576 0 575 refl;
}

pub cases2 : Cases 2 384 128
unfolding odd_rows times check_rows check_row taps parity_entries holds rows2 threes
cases2 = record {
  last_bit = one_alone (checks (code_of 2)) 512 511 0 refl ∙ odd2 511;
  bit_k = one_alone (checks (code_of 2)) 512 384 127 refl ∙ odd2 384;
  message_bit = one_alone (checks (code_of 2)) 512 0 511 refl ∙ odd2 0;
  byte_two = two_alone (checks (code_of 2)) 512 0 511 refl;
}
