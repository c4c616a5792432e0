-- `listing::list_frames` meets its contract: the batch's answer, and what it left at the fronts of the arrays, give the listing. Assumes nothing.
use mathlib.Core.Path.{◌≡◌, sym, ap, ◌∙◌}
use mathlib.Core.List.{List}
use Prim.Native.Nat.{ℕ, ◌*◌, ◌≤◌}
use native.Mathlib.Omega.{arith}
use lib.ListN.{length}
use lib.Seq.{length-take-le}
use Rattle.text.specs.Text.{refusal_line}
use Rattle.text.proofs.Lengths.{refusal_short}
use Rattle.batch.specs.Codes.{size_k}
use Rattle.batch.specs.Pairs.{pairs_of}
use Rattle.batch.specs.Calls.{refusals}
use Rattle.batch_input.specs.Input.{code_of, pair_numbers}
use Rattle.batch_input.specs.Handed.{batch_in}
use Rattle.batch_input.proofs.Wellformed.{wellformed}
use Rattle.decoded_input.specs.Fronts.{sizes_of}
use Rattle.decoded_input.proofs.Answers.{judged-turned}
use Rattle.decoded_input.proofs.Handed.{sizes_given, front, Accepted, accepted_input}
use Rattle.listing.proofs.Listing.{refused-line, accepted-short, fronts-text}
use Rattle.listing.proofs.list_frames.Goals as goal

pub decode_fronts-requires : goal.decode_fronts-requires
decode_fronts-requires c =
    record {
      input_value = c.requires.input_value;
      values_value = (c.requires.values_value, c.requires.pairs_value);
      in_bounds = (omega (arith, c.bits_room-bits.ensures), omega (arith, c.numbers_room-counts.ensures));
      in_bounds_2 = (omega (arith, c.numbers_room-rounds.ensures), omega (arith, c.numbers_room-firsts.ensures));
    }

pub refusal_line-requires : goal.refusal_line-requires
refusal_line-requires c = omega (arith, refusal_short c.from.result, c.requires.in_bounds)

-- ---- accepted: so many frames, and so many bits; they lie within the arrays
pub slice_bounds-bits-end : goal.slice_bounds-bits-end
slice_bounds-bits-end c =
    let known = accepted_input c.args.input.now c.in-Ok.decoded.frames c.in-Ok.decoded.bits c.in-Ok.ensures.result_value in
    omega (arith, known.short, c.decode_fronts.auto.bits, c.bits_room-bits.ensures)

pub slice_bounds-write_frames-end : goal.slice_bounds-write_frames-end
slice_bounds-write_frames-end c =
    let known = accepted_input c.args.input.now c.in-Ok.decoded.frames c.in-Ok.decoded.bits c.in-Ok.ensures.result_value in
    sym (length-take-le _ _ (omega (arith, known.short, c.decode_fronts.auto.bits, c.bits_room-bits.ensures)))

pub slice_bounds-counts-end : goal.slice_bounds-counts-end
slice_bounds-counts-end c =
    let known = accepted_input c.args.input.now c.in-Ok.decoded.frames c.in-Ok.decoded.bits c.in-Ok.ensures.result_value in
    omega (arith, known.few, c.decode_fronts.auto.counts, c.numbers_room-counts.ensures)

pub slice_bounds-write_frames-end-in-Ok : goal.slice_bounds-write_frames-end-in-Ok
slice_bounds-write_frames-end-in-Ok c =
    let known = accepted_input c.args.input.now c.in-Ok.decoded.frames c.in-Ok.decoded.bits c.in-Ok.ensures.result_value in
    sym (length-take-le _ _ (omega (arith, known.few, c.decode_fronts.auto.counts, c.numbers_room-counts.ensures)))

pub slice_bounds-rounds-end : goal.slice_bounds-rounds-end
slice_bounds-rounds-end c =
    let known = accepted_input c.args.input.now c.in-Ok.decoded.frames c.in-Ok.decoded.bits c.in-Ok.ensures.result_value in
    omega (arith, known.few, c.decode_fronts.auto.rounds, c.numbers_room-rounds.ensures)

pub slice_bounds-write_frames-end-in-Ok-2 : goal.slice_bounds-write_frames-end-in-Ok-2
slice_bounds-write_frames-end-in-Ok-2 c =
    let known = accepted_input c.args.input.now c.in-Ok.decoded.frames c.in-Ok.decoded.bits c.in-Ok.ensures.result_value in
    sym (length-take-le _ _ (omega (arith, known.few, c.decode_fronts.auto.rounds, c.numbers_room-rounds.ensures)))

pub slice_bounds-firsts-end : goal.slice_bounds-firsts-end
slice_bounds-firsts-end c =
    let known = accepted_input c.args.input.now c.in-Ok.decoded.frames c.in-Ok.decoded.bits c.in-Ok.ensures.result_value in
    omega (arith, known.few, c.decode_fronts.auto.firsts, c.numbers_room-firsts.ensures)

pub slice_bounds-write_frames-end-in-Ok-3 : goal.slice_bounds-write_frames-end-in-Ok-3
slice_bounds-write_frames-end-in-Ok-3 c =
    let known = accepted_input c.args.input.now c.in-Ok.decoded.frames c.in-Ok.decoded.bits c.in-Ok.ensures.result_value in
    sym (length-take-le _ _ (omega (arith, known.few, c.decode_fronts.auto.firsts, c.numbers_room-firsts.ensures)))

pub write_frames-requires : goal.write_frames-requires
write_frames-requires c =
    let s = c.args.input.now in
    let good : Accepted s c.in-Ok.decoded.frames c.in-Ok.decoded.bits =
    accepted_input s c.in-Ok.decoded.frames c.in-Ok.decoded.bits c.in-Ok.ensures.result_value in
    let head = (wellformed s c.requires.input_value).head in
    let n : c.in-Ok.decoded.frames ≡ length (pairs_of (pair_numbers s)) = good.frames ∙ sym good.many in
    let bytes : c.in-Ok.decoded.bits ≡ length (pairs_of (pair_numbers s)) * size_k (code_of s) =
    good.bits ∙ ap (λ (i : ℕ). i * size_k (code_of s)) (sym good.many) in
    let same : pairs_of c.args.pairs.now ≡ pairs_of (pair_numbers s) = ap (λ (ns : List ℕ). pairs_of ns) (c.requires.pairs_value ∙ good.all) in
    let bits-room : c.in-Ok.decoded.bits ≤ length c.decode_fronts.new.bits = omega (arith, good.short, c.decode_fronts.auto.bits, c.bits_room-bits.ensures) in
    let counts-room : c.in-Ok.decoded.frames ≤ length c.decode_fronts.new.counts =
    omega (arith, good.few, c.decode_fronts.auto.counts, c.numbers_room-counts.ensures) in
    let rounds-room : c.in-Ok.decoded.frames ≤ length c.decode_fronts.new.rounds =
    omega (arith, good.few, c.decode_fronts.auto.rounds, c.numbers_room-rounds.ensures) in
    let firsts-room : c.in-Ok.decoded.frames ≤ length c.decode_fronts.new.firsts =
    omega (arith, good.few, c.decode_fronts.auto.firsts, c.numbers_room-firsts.ensures) in
    rw (c.requires.values_value, same) record {
      in_bounds = (head, sym good.many);
      all_within = good.inside;
      pairs_len_bound = omega (arith, n, good.few);
      counts_len = (length-take-le _ _ counts-room ∙ n, length-take-le _ _ bits-room ∙ bytes);
      rounds_len = (length-take-le _ _ rounds-room ∙ n, length-take-le _ _ firsts-room ∙ n);
      in_bounds_2 = c.requires.in_bounds;
    }

pub returns-in-Err : goal.returns-in-Err
returns-in-Err c =
    let s = c.args.input.now in
    let shown = c.refusal_line.ensures in
    let number = judged-turned (refusals (batch_in s)) (sizes_of s) _ c.in-Err.ensures.result_value in
    let line = ap refusal_line c.from.ensures ∙ refused-line s c.requires.input_value _ number in
    record { written = rw line at shown; upper_bound = omega (arith, shown.end, refusal_short c.from.result) }

pub returns-in-Ok : goal.returns-in-Ok
returns-in-Ok c =
    let s = c.args.input.now in
    let left = c.decode_fronts.new in
    let good : Accepted s c.in-Ok.decoded.frames c.in-Ok.decoded.bits =
    accepted_input s c.in-Ok.decoded.frames c.in-Ok.decoded.bits c.in-Ok.ensures.result_value in
    let w = c.in-Ok.ensures.fronts (sizes_given good.frames good.bits) in
    let text =
    fronts-text s c.requires.input_value good.agreed c.requires.values_value (c.requires.pairs_value ∙ good.all) (front left.bits good.bits w.its_bits)
    (front left.counts good.frames w.its_counts) (front left.rounds good.frames w.its_rounds) (front left.firsts good.frames w.its_firsts)
    in
    let shown = rw text at c.write_frames.ensures in
    record { written = shown; upper_bound = omega (arith, shown.end, accepted-short s c.requires.input_value good.agreed) }
