-- The refusals of a place and a batch as the code tests them: the pairs that are handed on and the room that is said to be lent are judged as the whole
-- batch; and the line that is printed. Assumes nothing.
use mathlib.Core.Path.{◌≡◌, refl, sym, ◌∙◌}
use mathlib.Core.Bool.{not}
use mathlib.Core.List.{List, []}
use Prim.Native.Nat.{ℕ, ◌*◌, ◌<◌, ◌≤◌}
use native.Mathlib.Nat.{mul-le-mul}
use native.Mathlib.Omega.{arith}
use borrow.Author.Tests.{lt-ltb, le-ltb, ltb-true, not-false}
use lib.Dec.{ltb}
use lib.Ieee.{Float}
use lib.ListN.{length, take}
use Rattle.refusal.specs.Outcome.{refused}
use Rattle.refusal.proofs.Judged.{verdict, nothing, passed-by, judged_past, judged-front, judged_accepted, judged_refused, accepted_front, accepted_rest}
use Rattle.text.specs.Text.{refusal_line}
use Rattle.batch.specs.Codes.{size_n, size_k}
use Rattle.batch.specs.Pairs.{pairs_of, AllWithin}
use Rattle.batch.specs.Calls.{lent, batch, room_of, refusals_of, refusals}
use Rattle.batch.proofs.Sizes.{size_small}
use Rattle.batch.proofs.Whole.{all-good, all-inside}
use Rattle.batch_input.specs.Input.{code_of, rule_of, limit_of, scale_of, pair_count, pair_numbers, values_of}
use Rattle.batch_input.specs.Handed.{batch_in}
use Rattle.batch_input.specs.Read.{HeaderOf}
use Rattle.batch_input.specs.declared.Header.{Header}
use Rattle.batch_input.proofs.Handed.{same-verdict, room_for, few_all, accepted_few, pairs_many}
use Rattle.why.specs.Why.{place_refusal, asked_refusals, frame_line, frame_at, asked_line}

pub room_fits : (n code : ℕ) → n < 65536 → n * size_k code ≤ 25165440
room_fits n code h = let few : n ≤ 65535 = omega arith in mul-le-mul few (size_small code).bits

module _ (s : List ℕ) where
  -- what the batch's test finds
  pub batch-verdict : (h : Header) → HeaderOf s h → (n k : ℕ) → n ≡ pair_count s → k ≡ size_k h.code → (values : List Float) → values ≡ values_of s
      → (pairs : List ℕ) → pairs ≡ take 50 (pair_numbers s)
      → verdict (refusals_of h.code h.rule (length values) (pairs_of pairs) (record { bits = n * k; counts = n; rounds = n; firsts = n; work = 3070 }))
      ≡ verdict (refusals (batch_in s))
  batch-verdict h r n k en ek values ev pairs ep =
      rw (ek, en, r.code, r.rule, ev, ep, ← room_for (code_of s) (pair_count s)) (same-verdict s (room_of (batch_in s).memory) (λ few. refl))

  module _ (place : ℕ) where
    pub batch-refused : (k : ℕ) → verdict (refusals (batch_in s)) ≡ refused k → refused k ≡ verdict (asked_refusals place s)
    batch-refused k v = sym (judged-front (refusals (batch_in s)) (place_refusal place (pair_count s)) tt k v)

    pub place-refused : verdict (refusals (batch_in s)) ≡ nothing → pair_count s ≤ place → refused 19 ≡ verdict (asked_refusals place s)
    place-refused v h = sym (judged_past (refusals (batch_in s)) (place_refusal place (pair_count s)) tt v ∙ simp (le-ltb place (pair_count s) h))

    pub none-refused : verdict (refusals (batch_in s)) ≡ nothing → place < pair_count s → nothing ≡ verdict (asked_refusals place s)
    none-refused v h = sym (judged_past (refusals (batch_in s)) (place_refusal place (pair_count s)) tt v ∙ simp (lt-ltb place (pair_count s) h))

    -- ---- what is printed

    abbrev line : List ℕ
    line = frame_line (batch_in s) (frame_at (batch_in s) place)

    pub asked-refused : (k : ℕ) → verdict (asked_refusals place s) ≡ refused k → refusal_line k ≡ asked_line place s
    unfolding asked_line
    asked-refused k v = rw (judged_refused (asked_refusals place s) line k v)

    asked-accepted : verdict (asked_refusals place s) ≡ nothing → line ≡ asked_line place s
    unfolding asked_line
    asked-accepted v = rw (judged_accepted (asked_refusals place s) line v)

    -- an accepted batch has few pairs, of which the place names one; all of them are handed on, and they lie within the values
    module _ (v : verdict (asked_refusals place s) ≡ nothing) where
      batch-passed : verdict (refusals (batch_in s)) ≡ nothing
      batch-passed = accepted_front (refusals (batch_in s)) (place_refusal place (pair_count s)) v

      pub known-code : code_of s < 4
      known-code = let b = batch_in s in (all-good b.code b.rule (length b.values) b.pairs (room_of b.memory) batch-passed).known

      -- the values and the pairs that were read
      module _ (values : List Float) (pairs : List ℕ) (ev : values ≡ values_of s) (ep : pairs ≡ take 50 (pair_numbers s)) where
        pairs-are : pairs ≡ pair_numbers s
        pairs-are = ep ∙ few_all s (accepted_few s batch-passed)

        pub pairs-inside : AllWithin (size_n (code_of s)) (length values) (pairs_of pairs)
        pairs-inside =
            let b = batch_in s in rw (ev, pairs-are) (all-inside b.code b.rule (length b.values) b.pairs (room_of b.memory) batch-passed)

        pub place_inside : place < length (pairs_of pairs)
        place_inside =
            let p = passed-by (not (ltb place (pair_count s))) 19 nothing (accepted_rest (refusals (batch_in s)) (place_refusal place (pair_count s)) v) in
            rw pairs-are (omega (arith, pairs_many s, ltb-true place (pair_count s) (not-false (ltb place (pair_count s)) p.not-held)))

        -- the frame's line
        pub asked-line : let b = batch (code_of s) (rule_of s) (limit_of s) (scale_of s) values (pairs_of pairs) (lent [] [] [] [] []) in
            frame_line b (frame_at b place) ≡ asked_line place s
        unfolding frame_line
        asked-line = rw (ev, pairs-are) (asked-accepted v)
