-- `decoded_input::decode_fronts` meets its contract: the parts lent have exactly the lengths of the frames held, and what comes back lies at the fronts.
use mathlib.Core.Path.{◌≡◌, sym, ap, subst, ◌∙◌}
use mathlib.Core.List.{List, ◌++◌}
use Prim.Native.Nat.{ℕ, ◌*◌, ◌≤◌}
use native.Mathlib.Omega.{arith}
use lib.Ieee.{Float}
use lib.ListN.{length, take, drop, replicate, length-replicate}
use Rattle.refusal.specs.Outcome.{Outcome}
use Rattle.refusal.specs.Answers.{outcome_of}
use Rattle.refusal.proofs.Exits.{exit-by}
use Rattle.refusal.proofs.Judged.{verdict, nothing, judged_accepted, judged_refused}
use Rattle.softmath.specs.Single.{zero32}
use Rattle.batch.specs.Codes.{size_k}
use Rattle.batch.specs.Pairs.{pairs_of}
use Rattle.batch.specs.Calls.{Lent, lent, batch, room_of, refusals, Answered}
use Rattle.batch.proofs.Sizes.{product_small}
use Rattle.batch_input.specs.Input.{code_of, rule_of, limit_of, scale_of, pair_count, pair_numbers}
use Rattle.batch_input.specs.Handed.{batch_in, memory_for}
use Rattle.batch_input.proofs.Room.{part_length, back}
use Rattle.batch_input.proofs.Wellformed.{wellformed}
use Rattle.batch_input.proofs.Handed.{accepted_few}
use Rattle.decoded_input.specs.Fronts.{sizes_by, held, Fronts, sizes_of}
use Rattle.decoded_input.proofs.Handed.{held_few, held_all, room-right, handed, handed-verdict, Outputs, handed-outputs, sizes_given}
use Rattle.decoded_input.proofs.decode_fronts.Goals as goal

-- ---- an input s, n frames that have room, and k bits of each
module _ (s : List ℕ) (n k : ℕ) (n-is : n ≡ held (pair_count s)) (k-is : k ≡ size_k (code_of s)) where
  few : n ≤ 24
  few = rw n-is (held_few (pair_count s))

  size_is : n * k ≡ n * size_k (code_of s)
  size_is = ap (λ (j : ℕ). n * j) k-is

  size_fits : n * k ≤ 9216
  size_fits = omega (arith, size_is, product_small n (code_of s) few)

  -- the arrays have room for them
  module _ (bits counts rounds firsts : List ℕ) (b : 9216 ≤ length bits) (c : 24 ≤ length counts) (r : 24 ≤ length rounds) (f : 24 ≤ length firsts) where
    bits-room : n * k ≤ length bits
    bits-room = omega (arith, size_fits)

    counts-room : n ≤ length counts
    counts-room = omega (arith, few)

    rounds-room : n ≤ length rounds
    rounds-room = omega (arith, few)

    firsts-room : n ≤ length firsts
    firsts-room = omega (arith, few)

    -- what is lent to the call: the arrays' fronts and the work area
    abbrev memory : Lent
    memory = lent (take (n * k) bits) (take n counts) (take n rounds) (take n firsts) (replicate 3070 zero32)

    exact : room_of memory ≡ room_of (memory_for (code_of s) (held (pair_count s)))
    exact =
        let right =
        room-right (code_of s) n _ _ _ _ _ (sym (part_length bits _ bits-room) ∙ size_is) (sym (part_length counts _ counts-room))
        (sym (part_length rounds _ rounds-room)) (sym (part_length firsts _ firsts-room)) (length-replicate 3070 zero32)
        in
        right ∙ ap (λ (j : ℕ). room_of (memory_for (code_of s) j)) n-is

    -- what the call answered, and what it left of the parts
    module _ (o : Outcome Unit) (bits' counts' rounds' firsts' : List ℕ) (work' : List Float)
        (answered : Answered (handed s memory exact) o (lent bits' counts' rounds' firsts' work')) where
      -- what the whole input's batch comes to
      found : verdict (refusals (batch_in s)) ≡ o
      found = sym (handed-verdict s memory exact) ∙ sym answered.says

      -- an accepted call
      module _ (ok : o ≡ nothing) where
        outputs : Outputs s memory exact (lent bits' counts' rounds' firsts' work')
        outputs =
            handed-outputs s memory exact (lent bits' counts' rounds' firsts' work')
            (subst (λ (x : Outcome Unit). Answered (handed s memory exact) x (lent bits' counts' rounds' firsts' work')) ok answered)

        -- all frames are held
        all_held : n ≡ pair_count s
        all_held = n-is ∙ held_all (pair_count s) (accepted_few s (found ∙ ok))

        whole : n * k ≡ pair_count s * size_k (code_of s)
        whole = size_is ∙ ap (λ (j : ℕ). j * size_k (code_of s)) all_held

        fronts : length bits' ≡ length (take (n * k) bits) → length counts' ≡ length (take n counts) → length rounds' ≡ length (take n rounds)
            → length firsts' ≡ length (take n firsts)
            → Fronts s (bits' ++ drop (n * k) bits) (counts' ++ drop n counts) (rounds' ++ drop n rounds) (firsts' ++ drop n firsts)
        fronts kb kc kr kf =
            record {
              its_bits = ap (λ (j : ℕ). take j (bits' ++ drop (n * k) bits)) (sym whole) ∙ back bits _ bits-room bits' kb ∙ outputs.bits;
              its_counts = ap (λ (j : ℕ). take j (counts' ++ drop n counts)) (sym all_held) ∙ back counts _ counts-room counts' kc ∙ outputs.counts;
              its_rounds = ap (λ (j : ℕ). take j (rounds' ++ drop n rounds)) (sym all_held) ∙ back rounds _ rounds-room rounds' kr ∙ outputs.rounds;
              its_firsts = ap (λ (j : ℕ). take j (firsts' ++ drop n firsts)) (sym all_held) ∙ back firsts _ firsts-room firsts' kf ∙ outputs.firsts;
            }

-- ---- the goals
pub pair_count-requires : goal.pair_count-requires
pair_count-requires c = (wellformed c.args.input.now c.requires.input_value).head

pub bounds-input-0 : goal.bounds-input-0
bounds-input-0 c = omega (arith, (wellformed c.args.input.now c.requires.input_value).head)

pub overflow_mul-size : goal.overflow_mul-size
overflow_mul-size c =
    let fits = size_fits c.args.input.now c.frames_held-n.result c.message_bits.result (c.frames_held-n.ensures
    ∙ ap held c.pair_count.ensures.value) c.message_bits.ensures in
    omega (arith, fits)

pub slice_bounds-decode_input-end : goal.slice_bounds-decode_input-end
slice_bounds-decode_input-end c =
    let fits = size_fits c.args.input.now c.frames_held-n.result c.message_bits.result (c.frames_held-n.ensures
    ∙ ap held c.pair_count.ensures.value) c.message_bits.ensures in
    omega (arith, fits, c.requires.in_bounds.0)

pub slice_bounds-decode_input-end-2 : goal.slice_bounds-decode_input-end-2
slice_bounds-decode_input-end-2 c =
    let fits = size_fits c.args.input.now c.frames_held-n.result c.message_bits.result (c.frames_held-n.ensures
    ∙ ap held c.pair_count.ensures.value) c.message_bits.ensures in
    part_length c.args.bits.now _ (omega (arith, fits, c.requires.in_bounds.0))

pub slice_bounds-decode_input-end-3 : goal.slice_bounds-decode_input-end-3
slice_bounds-decode_input-end-3 c =
    let small = few c.args.input.now c.frames_held-n.result c.message_bits.result (c.frames_held-n.ensures
    ∙ ap held c.pair_count.ensures.value) c.message_bits.ensures in
    omega (arith, small, c.requires.in_bounds.1)

pub slice_bounds-decode_input-end-5 : goal.slice_bounds-decode_input-end-5
slice_bounds-decode_input-end-5 c =
    let small = few c.args.input.now c.frames_held-n.result c.message_bits.result (c.frames_held-n.ensures
    ∙ ap held c.pair_count.ensures.value) c.message_bits.ensures in
    omega (arith, small, c.requires.in_bounds_2.0)

pub slice_bounds-decode_input-end-7 : goal.slice_bounds-decode_input-end-7
slice_bounds-decode_input-end-7 c =
    let small = few c.args.input.now c.frames_held-n.result c.message_bits.result (c.frames_held-n.ensures
    ∙ ap held c.pair_count.ensures.value) c.message_bits.ensures in
    omega (arith, small, c.requires.in_bounds_2.1)

pub decode_input-requires : goal.decode_input-requires
decode_input-requires c = (wellformed c.args.input.now c.requires.input_value).head

pub returns-in_err-decode_input : goal.returns-in_err-decode_input
returns-in_err-decode_input c =
    let s = c.args.input.now in
    let a = c.args in
    let n = c.frames_held-n.result in
    let k = c.message_bits.result in
    let n-is : n ≡ held (pair_count s) = c.frames_held-n.ensures ∙ ap held c.pair_count.ensures.value in
    let o = outcome_of c.decode_input.result in
    let left = c.decode_input.new in
    let lent-parts = memory s n k n-is c.message_bits.ensures a.bits.now a.counts.now a.rounds.now a.firsts.now c.requires.in_bounds.0 c.requires.in_bounds.1
    c.requires.in_bounds_2.0 c.requires.in_bounds_2.1 in
    let over = batch (code_of s) (rule_of s) (limit_of s) (scale_of s) in
    let answered = subst (λ (v : List Float). Answered (over v (pairs_of (take 50 (pair_numbers s))) lent-parts) o
    (lent left.bits left.counts left.rounds left.firsts left.work))
    c.requires.values_value.0
    (subst (λ (ns : List ℕ). Answered (over a.values.now (pairs_of ns) lent-parts) o (lent left.bits left.counts left.rounds left.firsts left.work))
    c.requires.values_value.1
    c.decode_input.ensures) in
    let turned = found s n k n-is c.message_bits.ensures a.bits.now a.counts.now a.rounds.now a.firsts.now c.requires.in_bounds.0 c.requires.in_bounds.1
    c.requires.in_bounds_2.0 c.requires.in_bounds_2.1 o left.bits left.counts left.rounds left.firsts left.work answered
    ∙ ap outcome_of c.in_err-decode_input.was in
    let told = exit-by c.from_residual.result _ c.from_residual.ensures.1 sizes_by in
    record {
      result_value = told ∙ sym (judged_refused (refusals (batch_in s)) (sizes_of s) _ turned);
      fronts = λ e. let z : ◌≡◌ {A = ℕ} 0 1 = cc (sym told ∙ e) in absurd (omega arith);
    }

pub returns : goal.returns
returns c =
    let s = c.args.input.now in
    let a = c.args in
    let n = c.frames_held-n.result in
    let k = c.message_bits.result in
    let n-is : n ≡ held (pair_count s) = c.frames_held-n.ensures ∙ ap held c.pair_count.ensures.value in
    let o = outcome_of c.decode_input.result in
    let left = c.decode_input.new in
    let lent-parts = memory s n k n-is c.message_bits.ensures a.bits.now a.counts.now a.rounds.now a.firsts.now c.requires.in_bounds.0 c.requires.in_bounds.1
    c.requires.in_bounds_2.0 c.requires.in_bounds_2.1 in
    let over = batch (code_of s) (rule_of s) (limit_of s) (scale_of s) in
    let answered = subst (λ (v : List Float). Answered (over v (pairs_of (take 50 (pair_numbers s))) lent-parts) o
    (lent left.bits left.counts left.rounds left.firsts left.work))
    c.requires.values_value.0
    (subst (λ (ns : List ℕ). Answered (over a.values.now (pairs_of ns) lent-parts) o (lent left.bits left.counts left.rounds left.firsts left.work))
    c.requires.values_value.1
    c.decode_input.ensures) in
    let ok : o ≡ nothing = ap outcome_of c.in_ok-decode_input.was in
    let turned = found s n k n-is c.message_bits.ensures a.bits.now a.counts.now a.rounds.now a.firsts.now c.requires.in_bounds.0 c.requires.in_bounds.1
    c.requires.in_bounds_2.0 c.requires.in_bounds_2.1 o left.bits left.counts left.rounds left.firsts left.work answered ∙ ok in
    let all = all_held s n k n-is c.message_bits.ensures a.bits.now a.counts.now a.rounds.now a.firsts.now c.requires.in_bounds.0 c.requires.in_bounds.1
    c.requires.in_bounds_2.0 c.requires.in_bounds_2.1 o left.bits left.counts left.rounds left.firsts left.work answered ok in
    let sized = whole s n k n-is c.message_bits.ensures a.bits.now a.counts.now a.rounds.now a.firsts.now c.requires.in_bounds.0 c.requires.in_bounds.1
    c.requires.in_bounds_2.0 c.requires.in_bounds_2.1 o left.bits left.counts left.rounds left.firsts left.work answered ok in
    record {
      result_value = sizes_given all sized ∙ sym (judged_accepted (refusals (batch_in s)) (sizes_of s) turned);
      fronts = λ e. fronts s n k n-is c.message_bits.ensures a.bits.now a.counts.now a.rounds.now a.firsts.now c.requires.in_bounds.0 c.requires.in_bounds.1
          c.requires.in_bounds_2.0 c.requires.in_bounds_2.1 o left.bits left.counts left.rounds left.firsts left.work answered ok c.decode_input.auto.bits
          c.decode_input.auto.counts c.decode_input.auto.rounds c.decode_input.auto.firsts;
    }
