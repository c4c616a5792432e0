-- `why::input_fault` meets its contract: the batch's refusals, and then the place. Assumes nothing.
use mathlib.Core.Path.{sym, ap, ◌∙◌}
use Prim.Native.Nat.{ℕ, ◌*◌}
use native.Mathlib.Omega.{arith}
use Rattle.refusal.specs.Answers.{outcome_of}
use Rattle.refusal.proofs.Exits.{exit}
use Rattle.batch_input.proofs.Wellformed.{wellformed}
use Rattle.why.proofs.Asked.{room_fits, batch-verdict, batch-refused, place-refused, none-refused}
use Rattle.why.proofs.input_fault.Goals as goal

pub read_header-head-requires : goal.read_header-head-requires
read_header-head-requires c = (wellformed c.args.input.now c.requires.input_value).head

pub pair_count-frames-requires : goal.pair_count-frames-requires
pair_count-frames-requires c = (wellformed c.args.input.now c.requires.input_value).head

pub overflow_mul-room : goal.overflow_mul-room
overflow_mul-room c =
    let n = c.pair_count-frames.result in
    let size = ap (λ (k : ℕ). n * k) c.message_bits.ensures in
    omega (arith, size, room_fits n c.read_header-head.result.code c.pair_count-frames.ensures.upper_bound)

pub returns-in_err-batch_fault : goal.returns-in_err-batch_fault
returns-in_err-batch_fault c =
    let a = c.args in
    let found = c.batch_fault.ensures
    ∙ batch-verdict a.input.now c.read_header-head.result c.read_header-head.ensures _ _ c.pair_count-frames.ensures.value c.message_bits.ensures
    a.values.now c.requires.values_value a.pairs.now c.requires.pairs_value in
    exit c.from_residual.result _ c.from_residual.ensures.1
    ∙ batch-refused a.input.now a.place _ (sym found ∙ ap outcome_of c.in_err-batch_fault.was)

pub returns-then-place-frames : goal.returns-then-place-frames
returns-then-place-frames c =
    let a = c.args in
    let found = c.batch_fault.ensures
    ∙ batch-verdict a.input.now c.read_header-head.result c.read_header-head.ensures _ _ c.pair_count-frames.ensures.value c.message_bits.ensures
    a.values.now c.requires.values_value a.pairs.now c.requires.pairs_value in
    place-refused a.input.now a.place (sym found ∙ ap outcome_of c.in_ok-batch_fault.was)
    (omega (arith, c.pair_count-frames.ensures.value, c.if-place-frames.true))

pub returns : goal.returns
returns c =
    let a = c.args in
    let found = c.batch_fault.ensures
    ∙ batch-verdict a.input.now c.read_header-head.result c.read_header-head.ensures _ _ c.pair_count-frames.ensures.value c.message_bits.ensures
    a.values.now c.requires.values_value a.pairs.now c.requires.pairs_value in
    none-refused a.input.now a.place (sym found ∙ ap outcome_of c.in_ok-batch_fault.was)
    (omega (arith, c.pair_count-frames.ensures.value, c.if-place-frames.false))
