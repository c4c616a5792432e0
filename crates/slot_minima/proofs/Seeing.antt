-- The loops down a check's column: the messages seen, and answered in place. A turn and the end of each, from the laws of loops over a list. Assumes nothing.
use mathlib.Core.Bool.{Bool, true, false}
use mathlib.Core.Path.{◌≡◌, refl, sym, ap, subst, ◌∙◌}
use mathlib.Core.List.{List, [], ◌∷◌, ◌++◌, map}
use Prim.Native.Nat.{ℕ, suc, ◌+◌, ◌*◌, ◌<◌, ◌≤◌}
use native.Mathlib.Omega.{arith}
use borrow.Author.Tests.{ltb-true, ltb-false}
use lib.Dec.{T, ltb}
use lib.Ieee.{Float, nan, binary32, fits}
use lib.ListN.{length, take, drop, get_or, set, drop_of_length-le}
use Rattle.softmath.specs.CheckNode.{min_sum}
use Rattle.lists.proofs.Loops.{read_more, each_more, each-done}
use Rattle.slots.specs.Columns.{column, ColumnIs}
use Rattle.slots.proofs.Columns.{column-length}
use Rattle.slots.proofs.EachColumn.{entry_at, set_own}
use Rattle.slot_minima.specs.declared.Seen.{Seen}
use Rattle.slot_minima.specs.Minima.{Fit, none, more, fresh, noted, noted_all, answer_to}
use Rattle.slot_minima.proofs.Minima.{by-columns}

-- every entry of a list is a float of 32 bits
fit_all : (l : List Float) → ((i : ℕ) → i < length l → T (fits binary32 (get_or l i nan))) → Fit l
fit_all [] h = none
fit_all (x ∷ l) h = more (h 0 (omega arith)) (fit_all l (λ i k. h (suc i) (omega arith)))

module _ (m d c : ℕ) (w : List Float) where
  -- ---- seen

  -- the messages so far are seen: with those that are left they make the whole, and each is a float of 32 bits
  pub record SeenTo (j : ℕ) (kept : Seen) : Type 0 where
    pub whole : noted_all kept (drop j (column m d c w)) ≡ noted_all fresh (column m d c w)
    pub fit : (i : ℕ) → i < j → T (fits binary32 (get_or (column m d c w) i nan))

  pub seen_none : SeenTo 0 fresh
  seen_none = record { whole = refl; fit = λ i h. absurd (omega (arith, h)) }

  pub seen_more : (j : ℕ) (kept next : Seen) → j < d → T (fits binary32 (get_or w (j * m + c) nan)) → next ≡ noted kept (get_or w (j * m + c) nan)
      → SeenTo j kept → SeenTo (j + 1) next
  unfolding noted_all
  seen_more j kept next h f e s =
      let inside : j < length (column m d c w) = rw (column-length m d c w) h in
      let own = entry_at m d c j (j * m + c) w h refl in
      record {
        whole = read_more noted_all (λ (t : Seen) (v : Float) (vs : List Float). noted t v) (λ t v vs. refl) nan (column m d c w) _ j kept next inside
            (e ∙ ap (noted kept) (sym own)) s.whole;
        fit = λ i k. by i (ltb i j) refl (rw (sym own) at f) k;
      }
    where
      by : (i : ℕ) (b : Bool) → ltb i j ≡ b → T (fits binary32 (get_or (column m d c w) j nan)) → i < j + 1 → T (fits binary32 (get_or (column m d c w) i nan))
      by i true q g k = s.fit i (ltb-true i j q)
      by i false q g k = let same : i ≡ j = omega (arith, ltb-false i j q, k) in rw same g

  pub seen_all : (j : ℕ) (kept : Seen) → d ≤ j → SeenTo j kept → (kept ≡ noted_all fresh (column m d c w)) × Fit (column m d c w)
  unfolding noted_all
  seen_all j kept h s =
      let size = column-length m d c w in
      let all : length (column m d c w) ≤ j = rw size h in
      let none_left : drop j (column m d c w) ≡ [] = drop_of_length-le (column m d c w) all in
      (rw none_left at s.whole, fit_all (column m d c w) (λ i k. s.fit i (omega (arith, size, k, h))))

  -- ---- answered

  module _ (scale : Float) (kept : Seen) where
    pub answered-more : (r : List Float) (j p : ℕ) (v : Float) → c < m → j < d → p ≡ j * m + c → p < length w → v ≡ answer_to scale kept (get_or w p nan)
        → take j (column m d c w) ++ map (answer_to scale kept) (drop j (column m d c w)) ≡ r
        → take (j + 1) (column m d c (set w p v)) ++ map (answer_to scale kept) (drop (j + 1) (column m d c (set w p v))) ≡ r
    answered-more r j p v h l e n q k =
        let inside : j < length (column m d c w) = rw (column-length m d c w) l in
        rw (set_own m d c j p v w h e l n)
        (each_more (answer_to scale kept) nan (column m d c w) r j v inside (q ∙ ap (answer_to scale kept) (sym (entry_at m d c j p w l e))) k)

    pub answered-done : (r : List Float) (j : ℕ) → d ≤ j → take j (column m d c w) ++ map (answer_to scale kept) (drop j (column m d c w)) ≡ r
        → column m d c w ≡ r
    answered-done r j h k = each-done (answer_to scale kept) nan (column m d c w) r j (rw (column-length m d c w) h) k

-- ---- both: the answers are min-sum's
pub seen_and_answered : (m d c : ℕ) (s t : Float) (kept : Seen) (w v : List Float) → s ≡ t → kept ≡ noted_all fresh (column m d c w) → Fit (column m d c w)
    → ColumnIs m d c (map (answer_to s kept) (column m d c w)) w v → ColumnIs m d c (min_sum t (column m d c w)) w v
seen_and_answered m d c s t kept w v e k f i =
    let answers : map (answer_to s kept) (column m d c w) ≡ min_sum t (column m d c w) =
    rw (e, k) (by-columns t (column m d c w) f) in
    subst (λ (xs : List Float). ColumnIs m d c xs w v) answers i
