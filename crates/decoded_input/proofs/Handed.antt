-- What is handed on to the batch, and what is known of an input whose batch is accepted: its pairs are few, so that all of them were handed on.
use mathlib.Core.Path.{◌≡◌, refl, sym, ap, ◌∙◌}
use mathlib.Core.Bool.{Bool, true, false, cond}
use mathlib.Core.List.{List}
use Prim.Native.Nat.{ℕ, ◌*◌, ◌≤◌, ◌<◌}
use native.Mathlib.Omega.{arith}
use borrow.Author.Tests.{lt-ltb, ltb-true}
use lib.Dec.{ltb, lit≤}
use lib.ListN.{length, take}
use Rattle.refusal.specs.Outcome.{Outcome, accepted, judged}
use Rattle.refusal.proofs.Judged.{verdict, nothing}
use Rattle.batch.specs.Codes.{size_n, size_k}
use Rattle.batch.specs.Pairs.{pairs_of, AllWithin}
use Rattle.batch.specs.Calls.{Lent, Batch, batch, room_of, refusals, written, Answered}
use Rattle.batch_refusals.specs.declared.Room.{Room}
use Rattle.batch.proofs.Sizes.{product_small}
use Rattle.batch.proofs.Whole.{all-inside, accepted-left}
use Rattle.batch_input.specs.Input.{code_of, rule_of, limit_of, scale_of, pair_count, pair_numbers, values_of}
use Rattle.batch_input.specs.Handed.{batch_in, memory_for}
use Rattle.batch_input.proofs.Handed.{same-verdict, accepted_few, few_all, pairs_many, room_for}
use Rattle.decoded_input.specs.Fronts.{held, Sizes, sizes_of}
use Rattle.decoded_input.proofs.Answers.{judged-given}

-- ---- the frames that have room

few_held : (b : Bool) (n : ℕ) → ltb n 25 ≡ b → cond b n 0 ≤ 24
few_held true n e = omega (arith, ltb-true n 25 e)
few_held false n e = lit≤ tt

pub held_few : (n : ℕ) → held n ≤ 24
held_few n = few_held (ltb n 25) n refl

pub held_all : (n : ℕ) → n < 25 → held n ≡ n
held_all n few = rw (lt-ltb n 25 few)

pub room-right : (code n b c r f w : ℕ) → b ≡ n * size_k code → c ≡ n → r ≡ n → f ≡ n → w ≡ 3070
    → ◌≡◌ {A = Room} (record { bits = b; counts = c; rounds = r; firsts = f; work = w }) (room_of (memory_for code n))
room-right code n b c r f w eb ec er ef ew = cc (room_for code n)

pub sizes_given : {n k size bits : ℕ} → n ≡ k → size ≡ bits
    → ◌≡◌ {A = Outcome Sizes} (accepted (record { frames = n; bits = size })) (accepted (record { frames = k; bits = bits }))
sizes_given e f = rw (e, f)

-- an array's front, by the size that was answered
pub front : {n k : ℕ} (l : List ℕ) {whole : List ℕ} → n ≡ k → take k l ≡ whole → take n l ≡ whole
front l e f = ap (λ (i : ℕ). take i l) e ∙ f

-- ---- an input whose batch is accepted

-- of its sizes, as they are answered
pub record Accepted (s : List ℕ) (n size : ℕ) : Type 0 where
  pub agreed : verdict (refusals (batch_in s)) ≡ nothing
  pub frames : n ≡ pair_count s
  pub bits : size ≡ pair_count s * size_k (code_of s)
  pub few : n ≤ 24
  pub short : size ≤ 9216
  pub all : take 50 (pair_numbers s) ≡ pair_numbers s
  pub many : length (pairs_of (pair_numbers s)) ≡ pair_count s
  pub inside : AllWithin (size_n (code_of s)) (length (values_of s)) (pairs_of (pair_numbers s))

pub accepted_input : (s : List ℕ) (n size : ℕ) → accepted (record { frames = n; bits = size }) ≡ judged (refusals (batch_in s)) (sizes_of s) → Accepted s n size
accepted_input s n size e =
    let b = batch_in s in
    let given = judged-given (refusals b) (sizes_of s) (record { frames = n; bits = size }) e in
    let v = given.0 in
    let few = accepted_few s v in
    let frames : n ≡ pair_count s = ap (λ (x : Sizes). x.frames) given.1 in
    let bits : size ≡ pair_count s * size_k (code_of s) = ap (λ (x : Sizes). x.bits) given.1 in
    record {
      agreed = v;
      frames = frames;
      bits = bits;
      few = omega arith;
      short = omega (arith, product_small (pair_count s) (code_of s) (omega arith));
      all = few_all s few;
      many = pairs_many s;
      inside = all-inside b.code b.rule (length b.values) b.pairs (room_of b.memory) v;
    }

-- ---- what is handed on: the values, 50 numbers of the pairs, outputs with room for the frames held

module _ (s : List ℕ) (memory : Lent) (size : room_of memory ≡ room_of (memory_for (code_of s) (held (pair_count s)))) where
  abbrev pub handed : Batch
  handed = batch (code_of s) (rule_of s) (limit_of s) (scale_of s) (values_of s) (pairs_of (take 50 (pair_numbers s))) memory

  exact : pair_count s < 25 → room_of memory ≡ room_of (batch_in s).memory
  exact few = size ∙ ap (λ (n : ℕ). room_of (memory_for (code_of s) n)) (held_all (pair_count s) few)

  pub handed-verdict : verdict (refusals handed) ≡ verdict (refusals (batch_in s))
  handed-verdict = same-verdict s (room_of memory) exact

  -- the outputs of an accepted call are those of the input's batch
  pub record Outputs (l : Lent) : Type 0 where
    pub bits : l.bits ≡ (written (batch_in s)).bits
    pub counts : l.counts ≡ (written (batch_in s)).counts
    pub rounds : l.rounds ≡ (written (batch_in s)).rounds
    pub firsts : l.firsts ≡ (written (batch_in s)).firsts

  pub handed-outputs : (l : Lent) → Answered handed nothing l → Outputs l
  unfolding written
  handed-outputs l a =
      let few = accepted_few s (sym handed-verdict ∙ sym a.says) in
      let e = accepted-left handed l a in
      let bits : (written handed).bits ≡ (written (batch_in s)).bits = rw (few_all s few) in
      let counts : (written handed).counts ≡ (written (batch_in s)).counts = rw (few_all s few) in
      let rounds : (written handed).rounds ≡ (written (batch_in s)).rounds = rw (few_all s few) in
      let firsts : (written handed).firsts ≡ (written (batch_in s)).firsts = rw (few_all s few) in
      record {
        bits = ap (λ (x : Lent). x.bits) e ∙ bits;
        counts = ap (λ (x : Lent). x.counts) e ∙ counts;
        rounds = ap (λ (x : Lent). x.rounds) e ∙ rounds;
        firsts = ap (λ (x : Lent). x.firsts) e ∙ firsts;
      }
