-- `batch::decode_frames` meets its contract. The invariant: the first j frames are decoded. Assumes nothing.
use mathlib.Core.Path.{sym, ap, subst, ◌∙◌}
use Prim.Native.Nat.{ℕ, ◌<◌}
use native.Mathlib.Omega.{arith}
use lib.ListN.{length}
use Rattle.batch.specs.Codes.{size_n, size_k}
use Rattle.batch.specs.Pairs.{pair, pairs_of, frame_of}
use Rattle.batch.specs.Calls.{lent, batch, frame_decode}
use Rattle.batch.specs.Steps.{PlaceFits, placed}
use Rattle.batch.proofs.Frames.{pair_inside, offset-is, going-fits, going_more, going_done}
use borrow.Author.Rules.{rules}
use Rattle.batch.proofs.decode_frames.Goals as goal

-- in a turn there is a pair at place j, and its offset is a number of the list
pub offset_bounds-pairs-j : goal.offset_bounds-pairs-j
offset_bounds-pairs-j c =
    let place : c.loop-j.j < length (pairs_of c.args.pairs.now) = omega (arith, c.loop-j.invariant.counts.size) in
    omega (arith, pair_inside c.args.values.now c.args.pairs.now _ _ c.requires.inside place)

pub bounds-pairs-j : goal.bounds-pairs-j
bounds-pairs-j c =
    let place : c.loop-j.j < length (pairs_of c.args.pairs.now) = omega (arith, c.loop-j.invariant.counts.size) in
    omega (arith, pair_inside c.args.values.now c.args.pairs.now _ _ c.requires.inside place)

pub decode_place-requires : goal.decode_place-requires
decode_place-requires c =
    let a = c.args in
    let l = c.loop-j in
    let place : l.j < length (pairs_of a.pairs.now) = omega (arith, l.invariant.counts.size) in
    subst (λ (o : ℕ). PlaceFits a.code o l.j a.values.now (lent l.bits l.counts l.rounds l.firsts l.work))
    (offset-is a.values.now a.pairs.now _ _ c.requires.inside place)
    (going-fits c.requires l.invariant place)

pub loop-j-preserved : goal.loop-j-preserved
loop-j-preserved c =
    let a = c.args in
    let l = c.loop-j in
    let place : l.j < length (pairs_of a.pairs.now) = omega (arith, l.invariant.counts.size) in
    let b = batch a.code a.rule a.limit a.scale a.values.now (pairs_of a.pairs.now) (lent a.bits.now a.counts.now a.rounds.now a.firsts.now a.work.now) in
    let frame = λ (o : ℕ). placed (frame_decode b (frame_of a.values.now (pair o (size_n a.code)))) a.limit (size_k a.code) l.j
    (lent l.bits l.counts l.rounds l.firsts l.work) in
    going_more c.requires l.invariant place
    (c.decode_place.ensures ∙ ap frame (sym (offset-is a.values.now a.pairs.now _ _ c.requires.inside place)))
    (search rules) (search rules)

pub returns : goal.returns
returns c = going_done c.requires c.loop-j.invariant (omega (arith, c.loop-j.invariant.counts.size)) c.clear_area.ensures
