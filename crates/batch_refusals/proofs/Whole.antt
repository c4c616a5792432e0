-- The refusals as a whole: the numbers and lengths first, then the pairs. Assumes nothing.
use mathlib.Core.Path.{◌≡◌}
use mathlib.Core.Bool.{not}
use mathlib.Core.List.{List}
use Prim.Native.Nat.{ℕ, ◌*◌, ◌<◌, ◌≤◌}
use native.Mathlib.Omega.{arith}
use borrow.Author.Tests.{eqb-true, ltb-false, not-false}
use lib.Dec.{eqb, ltb}
use lib.ListN.{length}
use Rattle.refusal.specs.Outcome.{refused, Condition}
use Rattle.refusal.proofs.Judged.{verdict, nothing, passed-by, judged_past, judged-front, accepted_front, accepted_rest}
use Rattle.numbered.specs.Codes.{size_n, size_k}
use Rattle.batch_refusals.specs.Pairs.{Pair, AllWithin}
use Rattle.batch_refusals.specs.Refusals.{rule_not_of_code, head_refusals, pair_refusals, refusals_of}
use Rattle.batch_refusals.specs.declared.Room.{Room}
use Rattle.batch_refusals.proofs.Pairs.{all_within}

-- what accepted numbers and lengths are
pub record HeadGood (code pairs : ℕ) (room : Room) : Type 0 where
  pub known : code < 4
  pub few : pairs ≤ 24
  pub bits : room.bits ≡ pairs * size_k code
  pub counts : room.counts ≡ pairs
  pub rounds : room.rounds ≡ pairs
  pub firsts : room.firsts ≡ pairs
  pub area : 3070 ≤ room.work

head_good : (code rule pairs : ℕ) (room : Room) → verdict (head_refusals code rule pairs room) ≡ nothing → HeadGood code pairs room
head_good code rule pairs room e =
    let a = passed-by (ltb 3 code) 1 _ e in
    let b = passed-by (ltb 4 rule) 2 _ a.others in
    let c = passed-by (rule_not_of_code code rule) 3 _ b.others in
    let d = passed-by (ltb 24 pairs) 7 _ c.others in
    let f = passed-by (not (eqb room.bits (pairs * size_k code))) 8 _ d.others in
    let g = passed-by (not (eqb room.counts pairs)) 8 _ f.others in
    let h = passed-by (not (eqb room.rounds pairs)) 8 _ g.others in
    let i = passed-by (not (eqb room.firsts pairs)) 8 _ h.others in
    let j = passed-by (ltb room.work 3070) 9 _ i.others in
    record {
      known = omega (arith, ltb-false 3 code a.not-held);
      few = ltb-false 24 pairs d.not-held;
      bits = eqb-true room.bits (pairs * size_k code) (not-false (eqb room.bits (pairs * size_k code)) f.not-held);
      counts = eqb-true room.counts pairs (not-false (eqb room.counts pairs) g.not-held);
      rounds = eqb-true room.rounds pairs (not-false (eqb room.rounds pairs) h.not-held);
      firsts = eqb-true room.firsts pairs (not-false (eqb room.firsts pairs) i.not-held);
      area = ltb-false room.work 3070 j.not-held;
    }

-- the two runs of tests, one after the other
module _ (code rule values : ℕ) (ps : List Pair) (room : Room) where
  abbrev head : List Condition
  head = head_refusals code rule (length ps) room

  abbrev rest : List Condition
  rest = pair_refusals (size_n code) values 0 ps

  pub head-refused : (k : ℕ) → verdict head ≡ refused k → verdict (refusals_of code rule values ps room) ≡ refused k
  unfolding refusals_of
  head-refused k e = judged-front head rest tt k e

  pub head_passed : verdict head ≡ nothing → verdict (refusals_of code rule values ps room) ≡ verdict rest
  unfolding refusals_of
  head_passed e = judged_past head rest tt e

  -- where both were passed: the numbers and lengths are good, and the pairs lie within the values
  pub all-good : verdict (refusals_of code rule values ps room) ≡ nothing → HeadGood code (length ps) room
  unfolding refusals_of
  all-good v = head_good code rule (length ps) room (accepted_front head rest v)

  pub all-inside : verdict (refusals_of code rule values ps room) ≡ nothing → AllWithin (size_n code) values ps
  unfolding refusals_of
  all-inside v = all_within (size_n code) values 0 ps (accepted_rest head rest v)
