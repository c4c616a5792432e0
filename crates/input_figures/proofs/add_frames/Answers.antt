-- `input_figures::add_frames` meets its contract: the batch's refusal, or the sum with the frames that lie at the fronts of the arrays.
use mathlib.Core.Path.{sym, ap, ◌∙◌}
use mathlib.Core.List.{List}
use Prim.Native.Nat.{ℕ}
use native.Mathlib.Omega.{arith}
use lib.Seq.{length-take-le}
use Rattle.refusal.proofs.Exits.{exit}
use Rattle.batch.specs.Pairs.{pairs_of}
use Rattle.batch.specs.Calls.{refusals}
use Rattle.batch_input.specs.Input.{code_of}
use Rattle.batch_input.specs.Handed.{batch_in}
use Rattle.batch_input.proofs.Wellformed.{wellformed}
use Rattle.batch_figures.specs.Results.{added}
use Rattle.decoded_input.specs.Fronts.{sizes_of}
use Rattle.decoded_input.proofs.Answers.{judged-turned}
use Rattle.decoded_input.proofs.Handed.{sizes_given, front, Accepted, accepted_input}
use Rattle.input_figures.proofs.Added.{refused-input, added-input, results_are}
use Rattle.input_figures.proofs.add_frames.Goals as goal

pub decode_fronts-requires : goal.decode_fronts-requires
decode_fronts-requires c =
    record {
      input_value = c.requires.input_value;
      values_value = c.requires.values_value;
      in_bounds = (omega (arith, c.bits_room-bits.ensures), omega (arith, c.numbers_room-counts.ensures));
      in_bounds_2 = (omega (arith, c.numbers_room-rounds.ensures), omega (arith, c.numbers_room-firsts.ensures));
    }

pub bounds-input-0 : goal.bounds-input-0
bounds-input-0 c = omega (arith, (wellformed c.args.input.now c.requires.input_value).head)

-- ---- accepted: so many frames, and so many bits; they lie within the arrays
pub slice_bounds-bits-end : goal.slice_bounds-bits-end
slice_bounds-bits-end c =
    let known = accepted_input c.args.input.now c.in_ok-decoded.decoded.frames c.in_ok-decoded.decoded.bits c.in_ok-decoded.ensures.result_value in
    omega (arith, known.short, c.decode_fronts.auto.bits, c.bits_room-bits.ensures)

pub slice_bounds-add_batch-end : goal.slice_bounds-add_batch-end
slice_bounds-add_batch-end c =
    let known = accepted_input c.args.input.now c.in_ok-decoded.decoded.frames c.in_ok-decoded.decoded.bits c.in_ok-decoded.ensures.result_value in
    sym (length-take-le _ _ (omega (arith, known.short, c.decode_fronts.auto.bits, c.bits_room-bits.ensures)))

pub slice_bounds-counts-end : goal.slice_bounds-counts-end
slice_bounds-counts-end c =
    let known = accepted_input c.args.input.now c.in_ok-decoded.decoded.frames c.in_ok-decoded.decoded.bits c.in_ok-decoded.ensures.result_value in
    omega (arith, known.few, c.decode_fronts.auto.counts, c.numbers_room-counts.ensures)

pub slice_bounds-add_batch-end-2 : goal.slice_bounds-add_batch-end-2
slice_bounds-add_batch-end-2 c =
    let known = accepted_input c.args.input.now c.in_ok-decoded.decoded.frames c.in_ok-decoded.decoded.bits c.in_ok-decoded.ensures.result_value in
    sym (length-take-le _ _ (omega (arith, known.few, c.decode_fronts.auto.counts, c.numbers_room-counts.ensures)))

pub slice_bounds-rounds-end : goal.slice_bounds-rounds-end
slice_bounds-rounds-end c =
    let known = accepted_input c.args.input.now c.in_ok-decoded.decoded.frames c.in_ok-decoded.decoded.bits c.in_ok-decoded.ensures.result_value in
    omega (arith, known.few, c.decode_fronts.auto.rounds, c.numbers_room-rounds.ensures)

pub slice_bounds-add_batch-end-3 : goal.slice_bounds-add_batch-end-3
slice_bounds-add_batch-end-3 c =
    let known = accepted_input c.args.input.now c.in_ok-decoded.decoded.frames c.in_ok-decoded.decoded.bits c.in_ok-decoded.ensures.result_value in
    sym (length-take-le _ _ (omega (arith, known.few, c.decode_fronts.auto.rounds, c.numbers_room-rounds.ensures)))

pub returns-in_err-decoded : goal.returns-in_err-decoded
returns-in_err-decoded c =
    let s = c.args.input.now in
    let number = judged-turned (refusals (batch_in s)) (sizes_of s) _ c.in_err-decoded.ensures.result_value in
    exit c.from_residual.result _ c.from_residual.ensures.1 ∙ refused-input c.args.total s c.requires.input_value _ number

pub returns : goal.returns
returns c =
    let s = c.args.input.now in
    let left = c.decode_fronts.new in
    let known : Accepted s c.in_ok-decoded.decoded.frames c.in_ok-decoded.decoded.bits =
    accepted_input s c.in_ok-decoded.decoded.frames c.in_ok-decoded.decoded.bits c.in_ok-decoded.ensures.result_value in
    let wrote = c.in_ok-decoded.ensures.fronts (sizes_given known.frames known.bits) in
    let pairs = ap (λ (ns : List ℕ). pairs_of ns) (c.requires.values_value.1 ∙ known.all) in
    let same =
    results_are (code_of s) c.requires.values_value.0 pairs (front left.bits known.bits wrote.its_bits) (front left.counts known.frames wrote.its_counts)
    (front left.rounds known.frames wrote.its_rounds)
    in
    c.add_batch.ensures ∙ ap (added c.args.total) same ∙ added-input c.args.total s c.requires.input_value known.agreed
