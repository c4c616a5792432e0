-- Joining totals: in either order the same, and the totals of all frames are those of the parts, joined.
use mathlib.Core.Path.{◌≡◌, sym, ap, ◌∙◌}
use mathlib.Core.List.{List, [], ◌∷◌, ◌++◌}
use Prim.Native.Nat.{ℕ, ◌+◌, ◌-◌, ◌≤◌, ◌<◌}
use native.Mathlib.Nat.{add_comm, add_assoc, zero-add, add-zero}
use native.Mathlib.Decide.{dec_lt}
use native.Mathlib.Omega.{arith}
use borrow.Author.Tests.{lt-ltb, le-ltb}
use lib.Dec.{ltb}
use Rattle.refusal.specs.Outcome.{judged}
use Rattle.figures.specs.Totals.{join_refusals, sums, of_frame, Frame, nothing_yet, totals_of}
use Rattle.figures.specs.declared.Totals.{Totals}

-- "Joining two totals gives the same sums, or 14, in either order"
pub either_order : (a b : Totals) → judged (join_refusals a b) (sums a b) ≡ judged (join_refusals b a) (sums b a)
either_order a b = rw (add_comm a.frames b.frames, add_comm a.clean b.clean, add_comm a.counts b.counts, add_comm a.rounds b.rounds)

pub sums_assoc : (a b c : Totals) → sums (sums a b) c ≡ sums a (sums b c)
sums_assoc a b c =
    rw (
      add_assoc a.frames b.frames c.frames,
      add_assoc a.clean b.clean c.clean,
      add_assoc a.counts b.counts c.counts,
      add_assoc a.rounds b.rounds c.rounds,
    )

pub sums-nothing : (a : Totals) → sums nothing_yet a ≡ a
sums-nothing a = rw (zero-add a.frames, zero-add a.clean, zero-add a.counts, zero-add a.rounds)

-- what two totals come to, joined with a third
pub joined_further : (a b c : Totals) → judged (join_refusals (sums a b) c) (sums (sums a b) c) ≡ judged (join_refusals a (sums b c)) (sums a (sums b c))
joined_further a b c =
    rw (
      add_assoc a.frames b.frames c.frames,
      add_assoc a.clean b.clean c.clean,
      add_assoc a.counts b.counts c.counts,
      add_assoc a.rounds b.rounds c.rounds,
    )

pub nothing-added : (a : Totals) → sums a nothing_yet ≡ a
nothing-added a = rw (add-zero a.frames, add-zero a.clean, add-zero a.counts, add-zero a.rounds)

-- "joining the totals of two batches equals the totals of all their frames"
pub totals-joined : (xs ys : List Frame) → totals_of (xs ++ ys) ≡ sums (totals_of xs) (totals_of ys)
unfolding totals_of
totals-joined [] ys = sym (sums-nothing (totals_of ys))
totals-joined (f ∷ fs) ys =
    ap (sums (of_frame f.count f.rounds f.clean)) (totals-joined fs ys)
    ∙ sym (sums_assoc (of_frame f.count f.rounds f.clean) (totals_of fs) (totals_of ys))

-- the same of the call's answer: "Where no limit is passed", the totals of all frames, and else 14
pub batches_joined : (xs ys : List Frame)
    → judged (join_refusals (totals_of xs) (totals_of ys)) (sums (totals_of xs) (totals_of ys)) ≡ judged (join_refusals (totals_of xs) (totals_of ys))
    (totals_of (xs ++ ys))
batches_joined xs ys = ap (judged (join_refusals (totals_of xs) (totals_of ys))) (sym (totals-joined xs ys))

-- a sum passes its limit where the second number is more than what the first leaves
pub past_limit : (a b limit : ℕ) → a ≤ limit → ltb (limit - a) b ≡ ltb limit (a + b)
past_limit a b limit h = past (dec_lt limit (a + b))
  where
    past : Dec (limit < a + b) → ltb (limit - a) b ≡ ltb limit (a + b)
    past (yes p) = rw (lt-ltb limit (a + b) p, lt-ltb (limit - a) b (omega arith))
    past (no p) = rw (le-ltb limit (a + b) (omega arith), le-ltb (limit - a) b (omega arith))
