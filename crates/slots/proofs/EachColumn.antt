-- A work area turned column by column: what one entry set does to the columns, a column turned entry by entry, and the columns one after another. A place
-- tells its column and its entry. Assumes nothing.
use mathlib.Core.Bool.{Bool, true, false}
use mathlib.Core.Path.{◌≡◌, refl, sym, ap, subst, ◌∙◌}
use mathlib.Core.List.{List}
use Prim.Native.Nat.{ℕ, ◌+◌, ◌*◌, ◌<◌, ◌≤◌}
use native.Mathlib.Omega.{arith}
use borrow.Author.Tests.{ltb-true, ltb-false, eqb-true, eqb-false}
use lib.Dec.{eqb, ltb}
use lib.Ieee.{Float, nan}
use lib.ListN.{length, get_or, set, length-set}
use lib.Seq.{get_or-set_same, get_or-set_other, ext_get_or}
use Rattle.slots.specs.Columns.{column, AtColumns, ColumnIs}
use Rattle.slots.proofs.Columns.{column_at, column-length}
use Rattle.slots.proofs.Edges.{same_check, same-entry, entry_below}

-- entry j of column c lies within a work area of d slots
pub place_inside : (m d c j n : ℕ) → n ≡ d * m → c < m → j < d → j * m + c < n
place_inside m d c j n e h l = omega (arith, e, entry_below m d j c (j * m + c) h l refl)

-- and is what lies at its place
pub entry_at : (m d c j p : ℕ) (w : List Float) → j < d → p ≡ j * m + c → get_or (column m d c w) j nan ≡ get_or w p nan
entry_at m d c j p w l e = column_at m d c j w l ∙ ap (λ (x : ℕ). get_or w x nan) (sym e)

-- ---- entry j of column c set

module _ (m d c j p : ℕ) (x : Float) (v : List Float) (h : c < m) (e : p ≡ j * m + c) where
  -- what column k then holds at entry i, but for the entry that was set
  at_other : (k i : ℕ) → i < d → (i * m + k ≡ p → ⊥) → get_or (column m d k (set v p x)) i nan ≡ get_or (column m d k v) i nan
  at_other k i l n = column_at m d k i (set v p x) l ∙ get_or-set_other v p (i * m + k) x nan n ∙ sym (column_at m d k i v l)

  own_at : (i : ℕ) (b : Bool) → eqb i j ≡ b → j < d → p < length v → i < d
      → get_or (column m d c (set v p x)) i nan ≡ get_or (set (column m d c v) j x) i nan
  own_at i true q l n k =
      let same : i ≡ j = eqb-true i j q in
      let place : j * m + c ≡ p = sym e in
      let inside : j < length (column m d c v) = rw (column-length m d c v) l in
      rw same (column_at m d c j (set v p x) l ∙ rw place (get_or-set_same v p x nan n ∙ sym (get_or-set_same (column m d c v) j x nan inside)))
  own_at i false q l n k =
      let apart : i ≡ j → ⊥ = eqb-false i j q in
      at_other c i k (λ s. apart (same-entry m i j c c h h (s ∙ e))) ∙ sym (get_or-set_other (column m d c v) j i x nan apart)

  -- in its own column
  pub set_own : j < d → p < length v → column m d c (set v p x) ≡ set (column m d c v) j x
  set_own l n =
      let size : length (column m d c (set v p x)) ≡ d = column-length m d c (set v p x) in
      ext_get_or nan _ _ (size ∙ sym (length-set (column m d c v) j x ∙ column-length m d c v))
      (λ i k. own_at i (eqb i j) refl l n (omega (arith, size, k)))

  -- in every other column nothing changes
  pub set_apart : (k : ℕ) → k < m → (k ≡ c → ⊥) → column m d k (set v p x) ≡ column m d k v
  set_apart k l n =
      let size : length (column m d k (set v p x)) ≡ d = column-length m d k (set v p x) in
      ext_get_or nan _ _ (size ∙ sym (column-length m d k v))
      (λ i g. at_other k i (omega (arith, size, g)) (λ s. n (same_check m i j k c l h (s ∙ e))))

-- ---- a column turned entry by entry

-- v is w with no column changed but c
pub record ApartFrom (m d c : ℕ) (w v : List Float) : Type 0 where
  pub size : length v ≡ length w
  pub apart : (k : ℕ) → k < m → (k ≡ c → ⊥) → column m d k v ≡ column m d k w

pub apart_none : (m d c : ℕ) (w : List Float) → ApartFrom m d c w w
apart_none m d c w = record { size = refl; apart = λ k h n. refl }

pub apart_more : (m d c j p : ℕ) (x : Float) (w v : List Float) → c < m → p ≡ j * m + c → ApartFrom m d c w v → ApartFrom m d c w (set v p x)
apart_more m d c j p x w v h e a = record {
  size = length-set v p x ∙ a.size;
  apart = λ k l n. set_apart m d c j p x v h e k l n ∙ a.apart k l n;
}

pub column_is : {m d c : ℕ} {xs w v : List Float} → ApartFrom m d c w v → column m d c v ≡ xs → ColumnIs m d c xs w v
column_is a e = record { size = a.size; here = e; apart = a.apart }

-- ---- column by column

-- the columns before c are answered by f, and the others are as they were
pub record DoneTo (f : List Float → List Float) (m d : ℕ) (w : List Float) (c : ℕ) (v : List Float) : Type 0 where
  pub size : length v ≡ length w
  pub done : (k : ℕ) → k < c → column m d k v ≡ f (column m d k w)
  pub left : (k : ℕ) → c ≤ k → k < m → column m d k v ≡ column m d k w

module _ (f : List Float → List Float) (m d : ℕ) (w : List Float) where
  pub done_none : DoneTo f m d w 0 w
  done_none = record { size = refl; done = λ k h. absurd (omega (arith, h)); left = λ k g h. refl }

  module _ (c : ℕ) (v u : List Float) (h : c < m) (one : ColumnIs m d c (f (column m d c v)) v u) (all : DoneTo f m d w c v) where
    check-more : (k : ℕ) (b : Bool) → ltb k c ≡ b → k < c + 1 → column m d k u ≡ f (column m d k w)
    check-more k true q g =
        let less : k < c = ltb-true k c q in
        one.apart k (omega (arith, less, h)) (λ x. omega (arith, less, x)) ∙ all.done k less
    check-more k false q g =
        let same : c ≡ k = omega (arith, ltb-false k c q, g) in
        subst (λ (x : ℕ). column m d x u ≡ f (column m d x w)) same (one.here ∙ ap f (all.left c (omega arith) h))

    pub done_more : DoneTo f m d w (c + 1) u
    done_more = record {
      size = one.size ∙ all.size;
      done = λ k g. check-more k (ltb k c) refl g;
      left = λ k g l. one.apart k l (λ x. omega (arith, g, x)) ∙ all.left k (omega (arith, g)) l;
    }

  pub done_all : (c : ℕ) (v : List Float) → m ≤ c → DoneTo f m d w c v → AtColumns f m d w v
  done_all c v g all = record { size = all.size; columns = λ k h. all.done k (omega (arith, g, h)) }
