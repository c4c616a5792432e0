-- `groups::deliver_groups` meets its contract: the list of what is clean, and then the groups by it. Assumes nothing.
use mathlib.Core.Path.{◌≡◌, sym, ap, ap₂, ◌∙◌}
use mathlib.Core.Bool.{Bool, false}
use mathlib.Core.List.{List, ◌++◌}
use Prim.Native.Nat.{ℕ, ◌*◌, ◌/◌, ◌≤◌}
use native.Mathlib.Omega.{arith}
use lib.ListN.{length, take, drop, replicate}
use lib.Seq.{length-take-le, length_front, take_at}
use Rattle.batch.specs.Codes.{size_k}
use Rattle.batch.specs.Pairs.{pairs_of, frames_of}
use Rattle.batch.proofs.Pairs.{pairs-length}
use Rattle.clean_frames.specs.CleanFrames.{clean_of}
use Rattle.grouping.specs.Grouping.{delivered}
use Rattle.groups.specs.Groups.{clean_from}
use Rattle.groups.proofs.deliver_groups.Goals as goal

-- the array whose front is lent, and that front: as many places as there are frames
abbrev array : List Bool
array = replicate 24 false

few : (pairs : List ℕ) → length (pairs_of pairs) ≤ 24 → length pairs / 2 ≤ 24
few pairs h = omega (arith, pairs-length pairs, h)

front : (pairs : List ℕ) → length (pairs_of pairs) ≤ 24 → length (take (length pairs / 2) array) ≡ length pairs / 2
front pairs h = length-take-le (length pairs / 2) array (few pairs h)

-- once the list is made it stands in front
back : (list : List Bool) (n : ℕ) → length list ≡ n → take n (list ++ drop n array) ≡ list
back list n h = take_at list (drop n array) n h

pub slice_bounds-clean-end : goal.slice_bounds-clean-end
slice_bounds-clean-end c = few c.args.pairs.now c.requires.pairs_len_bound

pub clean_list-requires : goal.clean_list-requires
clean_list-requires c = record {
  all_within = c.requires.all_within;
  pairs_len_bound = c.requires.pairs_len_bound;
  counts_len = c.requires.counts_len;
  clean_len = front c.args.pairs.now c.requires.pairs_len_bound ∙ sym (pairs-length c.args.pairs.now);
}

pub slice_bounds-clean_list-end : goal.slice_bounds-clean_list-end
slice_bounds-clean_list-end c = sym (front c.args.pairs.now c.requires.pairs_len_bound)

pub slice_bounds-clean-end-2 : goal.slice_bounds-clean-end-2
slice_bounds-clean-end-2 c =
    let whole = length_front array c.clean_list.new.clean (length c.args.pairs.now / 2) c.clean_list.auto.clean in
    omega (arith, whole, few c.args.pairs.now c.requires.pairs_len_bound)

pub slice_bounds-close_groups-end : goal.slice_bounds-close_groups-end
slice_bounds-close_groups-end c =
    let list_length = c.clean_list.auto.clean ∙ front c.args.pairs.now c.requires.pairs_len_bound in
    sym (ap length (back c.clean_list.new.clean (length c.args.pairs.now / 2) list_length) ∙ list_length)

pub close_groups-requires : goal.close_groups-requires
close_groups-requires c =
    let pairs = c.args.pairs.now in
    let list_length = c.clean_list.auto.clean ∙ front pairs c.requires.pairs_len_bound in
    let size = ap length (back c.clean_list.new.clean (length pairs / 2) list_length) ∙ list_length ∙ sym (pairs-length pairs) in
    record {
      sizes_in_bounds = omega (arith, size, c.requires.sizes_in_bounds);
      bits_len = c.requires.counts_len.1 ∙ ap₂ ◌*◌ (sym size) (sym c.message_bits.ensures);
    }

pub returns : goal.returns
returns c =
    let a = c.args in
    let n = length a.pairs.now / 2 in
    let list = c.clean_list.new.clean in
    let few = c.requires.pairs_len_bound in
    let list_length = c.clean_list.auto.clean ∙ front a.pairs.now few in
    let ok : ℕ → Bool = clean_of a.code (frames_of a.values.now (pairs_of a.pairs.now)) a.counts.now a.bits.now in
    let list_is =
    ◌∙◌ {b = clean_from ok 0 (length (take n array))} c.clean_list.ensures (ap (clean_from ok 0) (front a.pairs.now few ∙ sym (pairs-length a.pairs.now))) in
    c.close_groups.ensures
    ∙ ap (λ (k : ℕ). delivered k a.sizes.now (take n (list ++ drop n array)) a.bits.now) c.message_bits.ensures
    ∙ ap (λ (l : List Bool). delivered (size_k a.code) a.sizes.now l a.bits.now) (back list n list_length ∙ list_is)
