-- One frame: its answer by its code, and its places: by cases of the code's number, and by the laws of parts of lists. Assumes nothing.
use mathlib.Core.Path.{◌≡◌, refl}
use mathlib.Core.List.{List, ◌++◌}
use Prim.Native.Nat.{ℕ, zero, suc, ◌+◌, ◌*◌, ◌-◌, ◌≤◌}
use native.Mathlib.Omega.{arith}
use lib.Ieee.{Float}
use lib.ListN.{take, drop}
use lib.Seq.{drop-drop}
use Rattle.softmath.specs.declared.DecodeRule.{DecodeRule}
use Rattle.rounds.specs.Told.{Chose}
use Rattle.rounds.specs.declared.Decoded.{Decoded}
use Rattle.one_round.specs.Held.{decode_at}
use Rattle.passes.specs.Codes.{checks_by, kind_by}
use Rattle.rules.specs.Rules.{rule_of}
use Rattle.batch_refusals.specs.Pairs.{pair, frame_of}
use Rattle.one_frame.specs.Codes.{decode_by, decode_of}
use Rattle.one_frame.specs.Place.{lent}

-- ---- one frame

decode_is : (code : ℕ) (r : DecodeRule) (llr : List Float) → decode_at code r llr ≡ decode_by code r llr
unfolding decode_by checks_by kind_by
decode_is zero r llr = refl
decode_is (suc zero) r llr = refl
decode_is (suc (suc zero)) r llr = refl
decode_is (suc (suc (suc n))) r llr = refl

pub frame-chosen : (code rule : ℕ) (scale : Float) (limit : ℕ) (llr : List Float) (k : ℕ) (found : Decoded) (bits : List ℕ) (r : DecodeRule)
    → r ≡ rule_of code rule scale → Chose (decode_at code r llr) limit k found bits → Chose (decode_of code rule scale llr) limit k found bits
frame-chosen code rule scale limit llr k found bits r e c = rw (decode_is code r llr, e) at c

-- ---- the places of frame j

-- the part of k places from j times k on, as the loan of it comes back
pub part_placed : {A : Type 0} (l : List A) (j : ℕ) {k size : ℕ} {part own : List A} → k ≡ size → part ≡ own
    → take (j * k) l ++ (part ++ drop (j * k + k - j * k) (drop (j * k) l)) ≡ take (j * size) l ++ (own ++ drop (j * size + size) l)
part_placed l j {size = size} e o =
    let s : j * size + size - j * size ≡ size = omega arith in
    rw (e, o, s, drop-drop size (j * size) l)

-- and there is room for it
pub room_is : (j : ℕ) {k size most : ℕ} → k ≡ size → j * size + size ≤ most → j * k + k ≤ most
room_is j e h = rw e h

-- the values from an offset on, as a part of the slice
pub part_frame : (values : List Float) (offset : ℕ) {n size : ℕ} → n ≡ size
    → take (offset + n - offset) (drop offset values) ≡ frame_of values (pair offset size)
unfolding frame_of
part_frame values offset {size = size} e =
    let s : offset + size - offset ≡ size = omega arith in
    rw (e, s)

-- the lent memory, part by part
pub lent_are : {b c r f b' c' r' f' : List ℕ} {w w' : List Float} → b ≡ b' → c ≡ c' → r ≡ r' → f ≡ f' → w ≡ w' → lent b c r f w ≡ lent b' c' r' f' w'
lent_are b c r f w = cc
