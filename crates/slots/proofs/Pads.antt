-- The pads lie at the places of the entries that checks lack, and at no other. By induction over the checks. Assumes nothing.
use mathlib.Core.Path.{◌≡◌, refl}
use mathlib.Core.Bool.{Bool, true, false, cond}
use mathlib.Core.List.{List, [], ◌∷◌}
use Prim.Native.Nat.{ℕ, zero, suc, ◌+◌, ◌*◌, ◌<◌}
use native.Mathlib.Omega.{arith}
use borrow.Author.Tests.{ltb-true, lt-ltb}
use lib.Dec.{ltb}
use lib.ListN.{length, get_or}
use Rattle.tanner.specs.Checks.{Checks}
use Rattle.slots.specs.Layout.{row, pads_from, pad_places}

-- x is the place of the first entry that a check lacks
pub record Lacks (cs : Checks) (m d c x : ℕ) : Type 0 where
  pub check : ℕ
  pub known : check < length cs
  pub short : length (row cs check) < d
  pub place : x ≡ length (row cs check) * m + (c + check)

-- e stands in the list
pub record Listed (es : List ℕ) (e : ℕ) : Type 0 where
  pub index : ℕ
  pub inside : index < length es
  pub there : get_or es index 0 ≡ e

module _ (m d : ℕ) where
  lacks-later : (r : List ℕ) (rs : Checks) (c x : ℕ) → Lacks rs m d (suc c) x → Lacks (r ∷ rs) m d c x
  lacks-later r rs c x l = record { check = suc l.check; known = omega (arith, l.known); short = l.short; place = omega (arith, l.place) }

  lacks-by : (r : List ℕ) (rs : Checks) (c : ℕ) (t : Bool) → ltb (length r) d ≡ t
      → ((k : ℕ) → k < length (pads_from m d (suc c) rs) → Lacks rs m d (suc c) (get_or (pads_from m d (suc c) rs) k 0))
      → (k : ℕ) → k < length (cond t ((length r * m + c) ∷ pads_from m d (suc c) rs) (pads_from m d (suc c) rs))
      → Lacks (r ∷ rs) m d c (get_or (cond t ((length r * m + c) ∷ pads_from m d (suc c) rs) (pads_from m d (suc c) rs)) k 0)
  lacks-by r rs c true t f zero h = record { check = 0; known = omega arith; short = ltb-true (length r) d t; place = omega arith }
  lacks-by r rs c true t f (suc k) h = lacks-later r rs c _ (f k (omega arith))
  lacks-by r rs c false t f k h = lacks-later r rs c _ (f k h)

  -- every pad is in the place of an entry that a check lacks
  pub pads-lack : (cs : Checks) (c k : ℕ) → k < length (pads_from m d c cs) → Lacks cs m d c (get_or (pads_from m d c cs) k 0)
  unfolding pads_from
  pads-lack [] c k h = absurd (omega arith)
  pads-lack (r ∷ rs) c k h = lacks-by r rs c (ltb (length r) d) refl (pads-lack rs (suc c)) k h

  listed-later : (e x : ℕ) (es : List ℕ) (t : Bool) → Listed es x → Listed (cond t (e ∷ es) es) x
  listed-later e x es true l = record { index = suc l.index; inside = omega (arith, l.inside); there = l.there }
  listed-later e x es false l = l

  -- and each such place has one
  pads-listed : (cs : Checks) (c k : ℕ) → k < length cs → length (row cs k) < d → Listed (pads_from m d c cs) (length (row cs k) * m + (c + k))
  unfolding pads_from
  pads-listed [] c k h l = absurd (omega arith)
  pads-listed (r ∷ rs) c zero h l = rw (lt-ltb (length r) d l) (record { index = 0; inside = omega arith; there = omega arith })
  pads-listed (r ∷ rs) c (suc k) h l =
      let e : suc c + k ≡ c + suc k = omega arith in
      rw e at (listed-later (length r * m + c) (length (row rs k) * m + (suc c + k)) (pads_from m d (suc c) rs) (ltb (length r) d)
      (pads-listed rs (suc c) k (omega arith) l))

  pub pad-listed : (cs : Checks) (k : ℕ) → k < length cs → length (row cs k) < d → Listed (pad_places cs m d) (length (row cs k) * m + k)
  pad-listed cs k h l =
      let e : 0 + k ≡ k = omega arith in
      rw e at (pads-listed cs 0 k h l)
