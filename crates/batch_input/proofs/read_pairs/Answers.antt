-- `batch_input::read_pairs` meets its contract: the numbers read are the first 50, or all, and the array's front has them. Assumes nothing.
use mathlib.Core.Path.{sym, ap, ◌∙◌}
use Prim.Native.Nat.{ℕ, ◌*◌, ◌≤◌, min}
use native.Mathlib.Omega.{arith}
use lib.ListN.{length}
use Rattle.batch_input.specs.Input.{u32s_from}
use Rattle.batch_input.proofs.Handed.{words_read}
use Rattle.batch_input.proofs.Room.{part_length, back, back_fits}
use Rattle.batch_input.proofs.Wellformed.{wellformed}
use Rattle.batch_input.proofs.read_pairs.Goals as goal

pub pair_count-requires : goal.pair_count-requires
pair_count-requires c = (wellformed c.args.input.now c.requires.input_value).head

pub slice_bounds-load_words-end : goal.slice_bounds-load_words-end
slice_bounds-load_words-end c = omega (arith, c.words_passed-words.ensures, c.requires.in_bounds)

pub load_words-requires : goal.load_words-requires
load_words-requires c =
    let good = wellformed c.args.input.now c.requires.input_value in
    let fits : c.words_passed-words.result ≤ length c.args.pairs.now = omega (arith, c.words_passed-words.ensures, c.requires.in_bounds) in
    let are = c.words_passed-words.ensures ∙ ap (λ (n : ℕ). min 50 (2 * n)) c.pair_count.ensures.value in
    omega (arith, part_length c.args.pairs.now c.words_passed-words.result fits, are, good.pairs)

pub returns : goal.returns
returns c =
    let s = c.args.input.now in
    let n = c.words_passed-words.result in
    let room = c.args.pairs.now in
    let fits : n ≤ length room = omega (arith, c.words_passed-words.ensures, c.requires.in_bounds) in
    let are = c.words_passed-words.ensures ∙ ap (λ (n : ℕ). min 50 (2 * n)) c.pair_count.ensures.value in
    let left = c.load_words.new.words in
    let same = c.load_words.auto.words in
    let read = c.load_words.ensures ∙ ap (λ (k : ℕ). u32s_from (λ x. x) s 12 k) (sym (part_length room n fits)) ∙ words_read s n are in
    record { fits = back_fits room n fits left same; front = back room n fits left same ∙ read }
