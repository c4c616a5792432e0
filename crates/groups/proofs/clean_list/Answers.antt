-- `groups::clean_list` meets its contract. The invariant: what is passed of the list is right. Assumes nothing.
use mathlib.Core.Path.{◌≡◌, sym, ◌∙◌}
use mathlib.Core.Bool.{Bool, false}
use mathlib.Core.List.{List}
use Prim.Native.Nat.{ℕ, ◌<◌}
use native.Mathlib.Nat.{zero-add}
use native.Mathlib.Omega.{arith}
use lib.ListN.{length, get_or}
use Rattle.lists.proofs.Loops.{fill_more, fill_done}
use Rattle.groups.specs.Groups.{clean_from}
use Rattle.groups.proofs.Clean.{clean-length, clean_at}
use Rattle.groups.proofs.clean_list.Invariants.{frame_clean}
use Rattle.groups.proofs.clean_list.Goals as goal

pub clean_at-requires : goal.clean_at-requires
clean_at-requires c = record {
  all_within = c.requires.all_within;
  pairs_len_bound = c.requires.pairs_len_bound;
  counts_len = c.requires.counts_len;
  j_in_bounds = omega (arith, c.loop-j-test.true, c.loop-j.auto.clean, c.requires.clean_len);
}

pub loop-j-preserved : goal.loop-j-preserved
loop-j-preserved c =
    let a = c.args in
    let ok : ℕ → Bool = frame_clean a.code a.values.now a.pairs.now a.counts.now a.bits.now in
    let many = length a.clean.now in
    let whole : List Bool = clean_from ok 0 many in
    let now = c.loop-j in
    let size : length whole ≡ many = clean-length ok 0 many in
    let place : ok now.j ≡ get_or whole now.j false =
    sym (rw zero-add at (clean_at ok 0 many now.j (omega (arith, now.auto.clean, c.loop-j-test.true)))) in
    let right = ◌∙◌ {b = ok now.j} c.clean_at.ensures place in
    let below : now.j < length whole = omega (arith, size, now.auto.clean, c.loop-j-test.true) in
    fill_more whole false now.clean now.j _ below (omega (arith, c.loop-j-test.true)) right now.invariant

pub returns : goal.returns
returns c =
    let a = c.args in
    let now = c.loop-j in
    let ok : ℕ → Bool = frame_clean a.code a.values.now a.pairs.now a.counts.now a.bits.now in
    let size = clean-length ok 0 (length a.clean.now) in
    fill_done (clean_from ok 0 (length a.clean.now)) false now.clean now.j (omega (arith, size, now.auto.clean, c.loop-j-test.false))
    (omega (arith, c.loop-j-test.false)) now.invariant
