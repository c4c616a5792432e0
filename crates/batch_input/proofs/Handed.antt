-- Of more pairs than 24 it is enough to hand on 25: refusals 1, 2 and 3 do not read the pairs, and 7 holds of both. By cases on the pairs' number. Assumes
-- nothing.
use mathlib.Core.Path.{◌≡◌, refl, sym, ap, ap₂}
use mathlib.Core.Bool.{Bool, true, false}
use mathlib.Core.List.{List, ◌∷◌}
use Prim.Native.Nat.{ℕ, zero, suc, ◌+◌, ◌*◌, ◌<◌, ◌≤◌, min}
use native.Mathlib.Omega.{arith}
use borrow.Author.Tests.{lt-ltb, ltb-true, ltb-false}
use lib.Dec.{ltb}
use lib.ListN.{length, take, length-take, length-replicate}
use lib.Seq.{take_all}
use Rattle.refusal.specs.Outcome.{Outcome}
use Rattle.refusal.proofs.Judged.{verdict, nothing}
use Rattle.batch.specs.Codes.{size_k}
use Rattle.batch.specs.Pairs.{pairs_of}
use Rattle.batch.specs.Calls.{room_of, refusals_of, refusals}
use Rattle.batch_refusals.specs.declared.Room.{Room}
use Rattle.batch.proofs.Pairs.{pairs-length}
use Rattle.batch.proofs.Whole.{all-good}
use Rattle.batch_input.specs.Input.{code_of, rule_of, pair_count, pair_numbers, values_of, u32_at, u32s_from}
use Rattle.batch_input.specs.Handed.{batch_in, memory_for}
use Rattle.batch_input.proofs.Load.{words-length}

-- ---- the numbers handed on are the first 50, or all

module _ {A : Type 0} (f : ℕ → A) (s : List ℕ) where
  take_words : (at m n : ℕ) → m ≤ n → take m (u32s_from f s at n) ≡ u32s_from f s at m
  unfolding u32s_from
  take_words at zero zero h = refl
  take_words at zero (suc n) h = refl
  take_words at (suc m) zero h = absurd (omega arith)
  take_words at (suc m) (suc n) h = ap (λ (l : List A). f (u32_at s at) ∷ l) (take_words (at + 4) m n (omega arith))

numbers_length : (s : List ℕ) → length (pair_numbers s) ≡ 2 * pair_count s
unfolding pair_numbers
numbers_length s = words-length (λ w. w) s 12 (2 * pair_count s)

pub pairs_many : (s : List ℕ) → length (pairs_of (pair_numbers s)) ≡ pair_count s
pairs_many s = omega (arith, pairs-length (pair_numbers s), numbers_length s)

-- the words that are read are the first 50, or all
pub words_read : (s : List ℕ) (n : ℕ) → n ≡ min 50 (2 * pair_count s) → u32s_from (λ w. w) s 12 n ≡ take 50 (pair_numbers s)
unfolding pair_numbers
words_read s n e = by (ltb 50 (2 * pair_count s)) refl
  where
    by : (b : Bool) → ltb 50 (2 * pair_count s) ≡ b → u32s_from (λ w. w) s 12 n ≡ take 50 (u32s_from (λ w. w) s 12 (2 * pair_count s))
    by true h =
        let less = ltb-true 50 (2 * pair_count s) h in
        let all : n ≡ 50 = omega arith in
        rw all (sym (take_words (λ w. w) s 12 50 (2 * pair_count s) (omega arith)))
    by false h =
        let more = ltb-false 50 (2 * pair_count s) h in
        let all : n ≡ 2 * pair_count s = omega arith in
        let size = words-length (λ w. w) s 12 (2 * pair_count s) in
        rw all (sym (take_all 50 (u32s_from (λ w. w) s 12 (2 * pair_count s)) (omega arith)))

pub few_all : (s : List ℕ) → pair_count s < 25 → take 50 (pair_numbers s) ≡ pair_numbers s
few_all s h = take_all 50 (pair_numbers s) (omega (arith, numbers_length s))

-- ---- what is handed on is answered as the whole

module _ (s : List ℕ) (room : Room) (exact : pair_count s < 25 → room ≡ room_of (batch_in s).memory) where
  abbrev found : List ℕ → Room → Outcome Unit
  found numbers r = verdict (refusals_of (code_of s) (rule_of s) (length (values_of s)) (pairs_of numbers) r)

  over : (numbers : List ℕ) (r : Room) → 25 ≤ length (pairs_of numbers) → (numbers' : List ℕ) (r' : Room) → 25 ≤ length (pairs_of numbers')
      → found numbers r ≡ found numbers' r'
  unfolding refusals_of
  over numbers r h numbers' r' h' = simp (lt-ltb 24 (length (pairs_of numbers)) h, lt-ltb 24 (length (pairs_of numbers')) h')

  by_number : (b : Bool) → ltb (pair_count s) 25 ≡ b → found (take 50 (pair_numbers s)) room ≡ found (pair_numbers s) (room_of (batch_in s).memory)
  by_number true e =
      let few = ltb-true (pair_count s) 25 e in
      ap₂ found (few_all s few) (exact few)
  by_number false e =
      let many = ltb-false (pair_count s) 25 e in
      let cut = pairs-length (take 50 (pair_numbers s)) in
      let size = length-take 50 (pair_numbers s) in
      over (take 50 (pair_numbers s)) room (omega (arith, numbers_length s)) (pair_numbers s) (room_of (batch_in s).memory) (omega (arith, pairs_many s))

  pub same-verdict : found (take 50 (pair_numbers s)) room ≡ verdict (refusals (batch_in s))
  same-verdict = by_number (ltb (pair_count s) 25) refl

-- an accepted batch has few pairs
pub accepted_few : (s : List ℕ) → verdict (refusals (batch_in s)) ≡ nothing → pair_count s < 25
accepted_few s v =
    let b = batch_in s in
    let good = all-good b.code b.rule (length b.values) b.pairs (room_of b.memory) v in
    omega (arith, good.few, pairs_many s)

-- the room for n frames
pub room_for : (code n : ℕ) → room_of (memory_for code n) ≡ record { bits = n * size_k code; counts = n; rounds = n; firsts = n; work = 3070 }
room_for code n = simp length-replicate
