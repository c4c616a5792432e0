-- `records::decode_records` meets its contract. The invariant: the first j frames are decoded. Assumes nothing.
use mathlib.Core.Path.{◌≡◌, sym, ap, subst, ◌∙◌}
use mathlib.Core.List.{List}
use Prim.Native.Nat.{ℕ, ◌<◌}
use native.Mathlib.Omega.{arith}
use lib.ListN.{length, get_or, length-map, get_or-map}
use Rattle.batch.specs.Codes.{size_n, size_k}
use Rattle.batch.specs.Pairs as named
use Rattle.batch.specs.Calls.{lent, batch, frame_decode}
use Rattle.batch.specs.Steps.{PlaceFits, placed}
use Rattle.batch.proofs.Frames.{offset_at, going-fits, going_more, going_done}
use Rattle.record_check.specs.declared.Pair.{Pair}
use Rattle.record_check.specs.Fields.{pair_of, pairs_of}
use Rattle.record_check.proofs.Types.{none}
use borrow.Author.Rules.{rules}
use Rattle.records.proofs.decode_records.Goals as goal

-- the offset of record j
offset-is : (ys : List Pair) (j : ℕ) → offset_at (pairs_of ys) j ≡ (get_or ys j none).offset
offset-is ys j = ap (λ (p : named.Pair). p.offset) (get_or-map pair_of ys j none)

there : (ys : List Pair) (j : ℕ) → j < length ys → j < length (pairs_of ys)
there ys j h = simp length-map h

pub decode_record-requires : goal.decode_record-requires
decode_record-requires c =
    let a = c.args in
    let l = c.loop-j in
    subst (λ (o : ℕ). PlaceFits a.code o l.j a.values.now (lent l.bits l.counts l.rounds l.firsts l.work)) (offset-is a.pairs.now l.j)
    (going-fits c.requires l.invariant (there a.pairs.now l.j c.loop-j-test.true))

pub loop-j-preserved : goal.loop-j-preserved
loop-j-preserved c =
    let a = c.args in
    let l = c.loop-j in
    let b = batch a.code a.rule a.limit a.scale a.values.now (pairs_of a.pairs.now) (lent a.bits.now a.counts.now a.rounds.now a.firsts.now a.work.now) in
    let frame = λ (o : ℕ). placed (frame_decode b (named.frame_of a.values.now (named.pair o (size_n a.code)))) a.limit (size_k a.code) l.j
    (lent l.bits l.counts l.rounds l.firsts l.work) in
    going_more c.requires l.invariant (there a.pairs.now l.j c.loop-j-test.true)
    (c.decode_record.ensures ∙ ap frame (sym (offset-is a.pairs.now l.j)))
    (search rules) (search rules)

pub returns : goal.returns
returns c = going_done c.requires c.loop-j.invariant (simp length-map (omega arith)) c.clear_area.ensures
