-- `batch_input::read_values` meets its contract: the values to the input's end are read, and the array's front has them. Assumes nothing.
use mathlib.Core.Path.{sym, ap, ◌∙◌}
use Prim.Native.Nat.{ℕ, ◌-◌, ◌/◌, ◌≤◌}
use native.Mathlib.Omega.{arith}
use lib.ListN.{length}
use Rattle.batch_input.specs.Input.{values_of, float_of, u32s_from}
use Rattle.batch_input.proofs.Room.{part_length, back, back_fits}
use Rattle.batch_input.proofs.Wellformed.{wellformed}
use Rattle.batch_input.proofs.read_values.Goals as goal

pub values_start-start-requires : goal.values_start-start-requires
values_start-start-requires c = (wellformed c.args.input.now c.requires.input_value).head

pub overflow_sub-n : goal.overflow_sub-n
overflow_sub-n c =
    let good = wellformed c.args.input.now c.requires.input_value in
    omega (arith, c.values_start-start.ensures, good.pairs)

pub slice_bounds-load_values-end : goal.slice_bounds-load_values-end
slice_bounds-load_values-end c =
    let good = wellformed c.args.input.now c.requires.input_value in
    omega (arith, good.short, c.requires.in_bounds)

pub slice_bounds-load_values-end-2 : goal.slice_bounds-load_values-end-2
slice_bounds-load_values-end-2 c =
    let good = wellformed c.args.input.now c.requires.input_value in
    part_length c.args.values.now _ (omega (arith, good.short, c.requires.in_bounds))

pub load_values-requires : goal.load_values-requires
load_values-requires c =
    let good = wellformed c.args.input.now c.requires.input_value in
    let n = (length c.args.input.now - c.values_start-start.result) / 4 in
    let fits : n ≤ length c.args.values.now = omega (arith, good.short, c.requires.in_bounds) in
    omega (arith, part_length c.args.values.now n fits, c.values_start-start.ensures, good.pairs)

pub returns : goal.returns
unfolding values_of
returns c =
    let s = c.args.input.now in
    let room = c.args.values.now in
    let good = wellformed s c.requires.input_value in
    let n = (length s - c.values_start-start.result) / 4 in
    let fits : n ≤ length room = omega (arith, good.short, c.requires.in_bounds) in
    let left = c.load_values.new.values in
    let same = c.load_values.auto.values in
    let count = ap (λ (k : ℕ). u32s_from float_of s c.values_start-start.result k) (sym (part_length room n fits)) in
    let start = ap (λ (a : ℕ). u32s_from float_of s a ((length s - a) / 4)) c.values_start-start.ensures in
    record { fits = back_fits room n fits left same; front = back room n fits left same ∙ c.load_values.ensures ∙ count ∙ start }
