-- A column's three picks take different rows, for any earlier columns, any state and at least three rows: a pick never takes a row that the column holds.
-- The search skips such rows, and among three rows one is free for the relaxed pick.
use mathlib.Core.Path.{◌≡◌, refl, sym, ◌∙◌}
use mathlib.Core.Bool.{Bool, true, false, cond, ◌||◌, or-true, true≢false}
use mathlib.Core.List.{List, [], ◌∷◌, ◌++◌}
use mathlib.Mathlib.Data.Bool.Basic.{or-eq-false-eq-eq-false-and-eq-false as or-is-false}
use Prim.Native.Nat.{ℕ, zero, suc, ◌+◌, ◌-◌, ◌%◌, ◌≤◌, ◌<◌}
use native.Mathlib.Nat.{mod-lt}
use native.Mathlib.Decide.{dec_lt, ℕ_discrete}
use native.Mathlib.Omega.{arith}
use borrow.Author.Tests.{ne_eqb, eqb-true, eqb-false}
use lib.Dec.{eqb}
use lib.Arith.{lt_of_le-ne}
use lib.ListN.{length, length-append}
use Rattle.columns.specs.Rows.{holds, together, times}
use Rattle.columns.proofs.Columns.{holds_append}
use Rattle.picking.specs.Picks.{up_from, once_round, search, first_outside}
use Rattle.picking.proofs.Rows.{settled-has, search-free}
use Rattle.placing.specs.OnePick.{skipped, load, pick}
use Rattle.construction.specs.Columns.{one_pick, picks}

-- a row that is not skipped is none of those picked
skipped_out : (cs : List (List ℕ)) (picked : List ℕ) (r : ℕ) → skipped cs picked r ≡ false → holds picked r ≡ false
unfolding skipped holds
skipped_out cs [] r e = refl
skipped_out cs (q ∷ qs) r e =
    let f = (or-is-false (eqb q r || together cs q r) (skipped cs qs r)).0 e in
    (or-is-false (eqb q r) (holds qs r)).1 (((or-is-false (eqb q r) (together cs q r)).0 f.0).0, skipped_out cs qs r f.1)

-- ---- the relaxed pick is not held, where a row is free
if_out : (b : Bool) (c : List ℕ) (x y : ℕ) → holds c y ≡ b → (b ≡ true → holds c x ≡ false) → holds c (cond b x y) ≡ false
if_out true c x y e f = f refl
if_out false c x y e f = e

held-later : (r : ℕ) (rs : List ℕ) (x : ℕ) (c : List ℕ) (b : Bool) → eqb r x ≡ b → (b || holds rs x) ≡ true → holds c x ≡ false → holds c r ≡ true
    → holds rs x ≡ true
held-later r rs x c true p h e held =
    let same = eqb-true r x p in
    absurd (true≢false (sym held ∙ rw same e))
held-later r rs x c false p h e held = h

outside_out : (c rs : List ℕ) (other x : ℕ) → holds rs x ≡ true → holds c x ≡ false → holds c (first_outside c rs other) ≡ false
unfolding holds first_outside
outside_out c [] other x h e = absurd (true≢false (sym h))
outside_out c (r ∷ rs) other x h e = if_out (holds c r) c _ r refl (λ held. outside_out c rs other x (held-later r rs x c (eqb r x) refl h e held) e)

-- ---- once round the rows meets each of them
up_first : (a x : ℕ) (b rest : Bool) → eqb a x ≡ b → ((a ≡ x → ⊥) → rest ≡ true) → (b || rest) ≡ true
up_first a x true rest e more = refl
up_first a x false rest e more = more (eqb-false a x e)

up-holds : (n a x : ℕ) → a ≤ x → x < a + n → holds (up_from a n) x ≡ true
unfolding holds up_from
up-holds zero a x low high = absurd (omega arith)
up-holds (suc n) a x low high = up_first a x (eqb a x) _ refl (λ apart. up-holds n (suc a) x (lt_of_le-ne low apart) (omega arith))

round-holds : (m start x : ℕ) → start ≤ m → x < m → holds (once_round m start) x ≡ true
round-holds m start x h k = holds_append (up_from start (m - start)) (up_from 0 start) x ∙ part (dec_lt x start)
  where
    part : Dec (x < start) → (holds (up_from start (m - start)) x || holds (up_from 0 start) x) ≡ true
    part (yes p) = rw (up-holds start 0 x (omega arith) (omega arith)) (or-true (holds (up_from start (m - start)) x))
    part (no p) = rw (up-holds (m - start) start x (omega arith) (omega arith))

-- a list of fewer than three rows leaves one of the rows 0, 1 and 2 out
record Outside (c : List ℕ) : Type 0 where
  pub at : ℕ
  pub low : at < 3
  pub out : holds c at ≡ false

free_of_none : Outside []
unfolding holds
free_of_none = record { at = 0; low = omega arith; out = refl }

free_of_one : (a : ℕ) → Outside (a ∷ [])
unfolding holds
free_of_one zero = record { at = 1; low = omega arith; out = refl }
free_of_one (suc a) = record { at = 0; low = omega arith; out = rw (ne_eqb (suc a) 0 (λ e. omega arith)) }

two_out : (a b x : ℕ) → x < 3 → (a ≡ x → ⊥) → (b ≡ x → ⊥) → Outside (a ∷ (b ∷ []))
unfolding holds
two_out a b x low p q = record { at = x; low = low; out = rw (ne_eqb a x p, ne_eqb b x q) }

-- row 0 is a: then row 1 or row 2 is free of b
free_with_zero : (b : ℕ) → Dec (b ≡ 1) → Outside (0 ∷ (b ∷ []))
free_with_zero b (no p) = two_out 0 b 1 (omega arith) (λ e. omega arith) p
free_with_zero b (yes p) = two_out 0 b 2 (omega arith) (λ e. omega arith) (λ e. omega arith)

-- row 0 is not a; where it is b, row 1 or row 2 is free of a
free_of_later : (a b : ℕ) → (a ≡ 0 → ⊥) → Dec (b ≡ 0) → Dec (a ≡ 1) → Outside (a ∷ (b ∷ []))
free_of_later a b n (no q) d = two_out a b 0 (omega arith) n q
free_of_later a b n (yes q) (no r) = two_out a b 1 (omega arith) r (λ e. omega arith)
free_of_later a b n (yes q) (yes r) = two_out a b 2 (omega arith) (λ e. omega arith) (λ e. omega arith)

free_of_two : (a b : ℕ) → Outside (a ∷ (b ∷ []))
free_of_two zero b = free_with_zero b (ℕ_discrete b 1)
free_of_two (suc a) b = free_of_later (suc a) b (λ e. omega arith) (ℕ_discrete b 0) (ℕ_discrete (suc a) 1)

free_row : (c : List ℕ) → length c < 3 → Outside c
free_row [] h = free_of_none
free_row (a ∷ []) h = free_of_one a
free_row (a ∷ (b ∷ [])) h = free_of_two a b
free_row (a ∷ (b ∷ (c ∷ l))) h = absurd (omega arith)

-- ---- a pick takes a row that the column does not hold
pick_out : (m : ℕ) (cs : List (List ℕ)) (picked : List ℕ) (s : ℕ) → 3 ≤ m → length picked < 3 → holds picked (pick m cs picked s).row ≡ false
unfolding pick
pick_out m cs picked s some few =
    let low : s % m < m = mod-lt s (omega arith) in
    let o = free_row picked few in
    settled-has (λ r. holds picked r ≡ false) m picked (s % m) (search m (load cs) (skipped cs picked) (s % m))
    (λ r e. skipped_out cs picked r (search-free m (load cs) (skipped cs picked) (s % m) r e))
    (outside_out picked (once_round m (s % m)) 0 o.at (round-holds m (s % m) o.at (omega arith) (omega (arith, o.low))) o.out)

-- ---- the rows of a column
-- each row is none of those before it
unfoldable pub Different : List ℕ → Type 0
Different [] = Unit
Different (r ∷ rs) = (holds rs r ≡ false) × Different rs

snoc_different : (xs : List ℕ) (x : ℕ) → Different xs → holds xs x ≡ false → Different (xs ++ (x ∷ []))
unfolding Different holds
snoc_different [] x d e = (refl, tt)
snoc_different (y ∷ ys) x d e =
    let f = (or-is-false (eqb y x) (holds ys x)).0 e in
    let apart : eqb x y ≡ false = ne_eqb x y (λ p. eqb-false y x f.0 (sym p)) in
    (holds_append ys (x ∷ []) y ∙ rw (d.0, apart), snoc_different ys x d.1 f.1)

picks-length : (t m : ℕ) (cs : List (List ℕ)) (s : ℕ) → length (picks t m cs s).rows ≡ t
unfolding picks one_pick
picks-length zero m cs s = refl
picks-length (suc t) m cs s = length-append (picks t m cs s).rows _ ∙ omega (arith, picks-length t m cs s)

picks_different : (t m : ℕ) (cs : List (List ℕ)) (s : ℕ) → t ≤ 3 → 3 ≤ m → Different (picks t m cs s).rows
unfolding picks one_pick Different
picks_different zero m cs s h some = tt
picks_different (suc t) m cs s h some =
    snoc_different (picks t m cs s).rows _ (picks_different t m cs s (omega arith) some)
    (pick_out m cs (picks t m cs s).rows _ some (omega (arith, picks-length t m cs s)))

-- the three rows of a column, in the order of the picks, are different
pub three_different : (m : ℕ) (cs : List (List ℕ)) (s : ℕ) → 3 ≤ m → Different (picks 3 m cs s).rows × (length (picks 3 m cs s).rows ≡ 3)
three_different m cs s some = (picks_different 3 m cs s (omega arith) some, picks-length 3 m cs s)

-- ---- so no row stands twice in a column, sorted or not
times_none : (xs : List ℕ) (r : ℕ) → holds xs r ≡ false → times xs r ≡ 0
unfolding holds times
times_none [] r e = refl
times_none (x ∷ xs) r e =
    let f = (or-is-false (eqb x r) (holds xs r)).0 e in
    rw f.0 (omega (arith, times_none xs r f.1))

once_if : (x r : ℕ) (xs : List ℕ) (b : Bool) → eqb x r ≡ b → holds xs x ≡ false → times xs r ≤ 1 → cond b 1 0 + times xs r ≤ 1
once_if x r xs true e d h =
    let same = eqb-true x r e in
    omega (arith, rw same at (times_none xs x d))
once_if x r xs false e d h = omega arith

pub different_once : (l : List ℕ) (r : ℕ) → Different l → times l r ≤ 1
unfolding Different times
different_once [] r d = omega arith
different_once (x ∷ xs) r d = once_if x r xs (eqb x r) refl d.0 (different_once xs r d.1)
