-- `grouping::close_groups` meets its contract. The invariant: all groups are delivered where those that are left are, of the bytes that are left.
use Rattle.std.proofs.Common.{Bool, List, ℕ, ◌+◌, ◌-◌, ◌*◌, get_or, take, drop, ap, ◌∙◌}
use Rattle.grouping.specs.Grouping.{group_bits}
use Rattle.grouping.proofs.Groups.{frames_fit, rest-fits, next-length, next-group, all_closed}
use Rattle.grouping.proofs.close_groups.Goals as goal

-- the bytes of a group of n frames, whose frames start at place `at`
abbrev bytes : ℕ → ℕ → ℕ → List ℕ → List ℕ
bytes k at n bits = take ((at + n) * k - at * k) (drop (at * k) bits)

pub slice_bounds-all_clean-end : goal.slice_bounds-all_clean-end
slice_bounds-all_clean-end c =
    frames_fit c.args.k c.args.sizes.now c.args.clean.now c.loop-n.at c.loop-n.n-index c.loop-n-test.true c.loop-n.invariant.frames_in

pub loop-n-preserved : goal.loop-n-preserved
loop-n-preserved c =
    let a = c.args in
    let x = c.loop-n in
    let h = c.loop-n-test.true in
    let i = x.invariant in
    let part = c.close_group.new.bits in
    let n = get_or a.sizes.now x.n-index 0 in
    let new = c.close_group.ensures ∙ ap (λ (d : Bool). group_bits d (bytes a.k x.at n x.bits)) c.all_clean-deliver.ensures in
    record {
      frames_in = rest-fits a.k a.sizes.now a.clean.now x.at x.n-index h i.frames_in;
      bits_len = next-length a.k a.sizes.now a.clean.now x.at x.n-index h i.frames_in x.bits part i.bits_len new;
      groups_left = next-group a.k a.sizes.now a.clean.now x.at x.n-index h i.frames_in x.bits part i.bits_len new a.bits.now i.groups_left;
    }

pub returns : goal.returns
returns c =
    let x = c.loop-n in
    all_closed c.args.k c.args.sizes.now c.args.clean.now c.args.bits.now x.bits x.at x.n-index c.loop-n-test.false x.invariant.groups_left
