-- Flags and loads after stores: what one store does to each row, and what a column's stores do together. By cases on whether it is the row.
use mathlib.Core.Path.{◌≡◌, refl, sym, ap, ◌∙◌}
use mathlib.Core.Bool.{Bool, true, false, cond, ◌&&◌, ◌||◌, or_assoc, or-true, or-false}
use mathlib.Core.List.{List, [], ◌∷◌, ◌++◌}
use Prim.Native.Nat.{ℕ, ◌+◌, ◌*◌, ◌≤◌, ◌<◌}
use native.Mathlib.Numerals.{add-one}
use native.Mathlib.Omega.{arith}
use borrow.Author.Tests.{eqb-true, eqb-false}
use lib.Dec.{eqb}
use lib.ListN.{length, get_or, set, take, drop, length-set, length-take, length-drop, length-append}
use lib.Seq.{get_or-set_same, get_or-set_other, take-suc, take_at, drop_at, take-take, drop-drop}
use Rattle.std.proofs.lemmas.List.{drop-take}
use Rattle.columns.specs.Rows.{holds, times, together}
use Rattle.columns.specs.Tables.{flag_at, column_at, columns_in, Marked, MarkedWith, AllMarked, Loaded, Room}
use Rattle.lists.specs.Below.{Below}
use Rattle.columns.proofs.Columns.{holds_append, times_append, times-le}

-- ---- one store
flag_set_if : (v : List ℕ) (q r : ℕ) (b : Bool) → eqb q r ≡ b → r < length v → flag_at (set v q 1) r ≡ (b || flag_at v r)
unfolding flag_at
flag_set_if v q r true e h = rw (eqb-true q r e, get_or-set_same v r 1 0 h)
flag_set_if v q r false e h = rw (get_or-set_other v q r 1 0 (λ p. eqb-false q r e (sym p)))

pub flag_set_at : (v : List ℕ) (q r : ℕ) → r < length v → flag_at (set v q 1) r ≡ (eqb q r || flag_at v r)
flag_set_at v q r h = flag_set_if v q r (eqb q r) refl h

load-set_if : (v : List ℕ) (q r : ℕ) (b : Bool) → eqb q r ≡ b → r < length v → get_or (set v q (get_or v q 0 + 1)) r 0 ≡ cond b 1 0 + get_or v r 0
load-set_if v q r true e h = rw (eqb-true q r e, get_or-set_same v r (get_or v r 0 + 1) 0 h) (omega arith)
load-set_if v q r false e h = rw (get_or-set_other v q r (get_or v q 0 + 1) 0 (λ p. eqb-false q r e (sym p))) (omega arith)

pub load-set_at : (v : List ℕ) (q r : ℕ) → r < length v → get_or (set v q (get_or v q 0 + 1)) r 0 ≡ cond (eqb q r) 1 0 + get_or v r 0
load-set_at v q r h = load-set_if v q r (eqb q r) refl h

-- ---- a column's rows, one after another
one_holds : (q r : ℕ) → holds (q ∷ []) r ≡ eqb q r
unfolding holds
one_holds q r = or-false (eqb q r)

one_times : (q r : ℕ) → times (q ∷ []) r ≡ cond (eqb q r) 1 0
unfolding times
one_times q r = omega arith

pub or_swap : (a b c : Bool) → (b || (a || c)) ≡ ((a || b) || c)
or_swap true b c = or-true b
or_swap false b c = refl

pub marked-none : (u : List ℕ) → Marked [] u u
unfolding Marked holds
marked-none u r h = refl

module _ (c u v : List ℕ) (i : ℕ) (more : i < length c) (size : length v ≡ length u) where
  pub marked_more : Marked (take i c) u v → Marked (take (i + 1) c) u (set v (get_or c i 0) 1)
  unfolding Marked
  marked_more inv r h =
      flag_set_at v (get_or c i 0) r (omega arith)
      ∙ rw (inv r h, add-one, take-suc c i 0 more, holds_append (take i c) (get_or c i 0 ∷ []) r, one_holds (get_or c i 0) r)
      (or_swap (holds (take i c) r) (eqb (get_or c i 0) r) (flag_at u r))

  pub loaded-more : Loaded (take i c) u v → Loaded (take (i + 1) c) u (set v (get_or c i 0) (get_or v (get_or c i 0) 0 + 1))
  unfolding Loaded
  loaded-more inv r h =
      load-set_at v (get_or c i 0) r (omega arith)
      ∙ rw (inv r h, add-one, take-suc c i 0 more, times_append (take i c) (get_or c i 0 ∷ []) r, one_times (get_or c i 0) r) (omega arith)

  pub loaded-room : Below (length u) c → Room (length c) u → Loaded (take i c) u v → get_or v (get_or c i 0) 0 + 1 < 65536
  unfolding Room Loaded Below
  loaded-room below room inv =
      let q = get_or c i 0 in
      let s : length (take i c) ≤ i = simp length-take (omega arith) in
      omega (arith, room q (below i more), inv q (below i more), times-le (take i c) q)

pub loaded-none : (u : List ℕ) → Loaded [] u u
unfolding Loaded times
loaded-none u r h = omega arith

-- ---- the columns, one after another, each marked where it holds q
unfoldable pub Joined : List (List ℕ) → ℕ → List ℕ → List ℕ → Type 0
Joined cs q u v = (r : ℕ) → r < length u → flag_at v r ≡ (together cs q r || flag_at u r)

pub joined-none : (rows : List ℕ) (q : ℕ) (u : List ℕ) → Joined (columns_in rows 0) q u u
unfolding Joined together columns_in
joined-none rows q u r h = refl

-- a chunk of three after k columns, of the first n, is the next column
module _ (rows : List ℕ) (n k : ℕ) (c left more : List ℕ) (long : 3 * n ≤ length rows) (here : left ≡ drop (3 * k) (take (3 * n) rows))
    (cut : left ≡ c ++ more) (three : length c ≡ 3) where
  pub chunk-few : k + 1 ≤ n
  chunk-few = omega (arith, simp (length-drop, length-take) at (ap length here), simp length-append at (ap length cut))

  pub chunk-is : c ≡ column_at rows k
  unfolding column_at
  chunk-is =
      let few = chunk-few in
      let inside : 3 * k + 3 ≤ 3 * n = omega arith in
      let whole = take (3 * n) rows in
      sym (take_at c more 3 three) ∙ rw (← cut, here, ← drop-take (3 * k) 3 whole, take-take (3 * k + 3) (3 * n) rows inside) (drop-take (3 * k) 3 rows)

  pub chunk-more : more ≡ drop (3 * (k + 1)) (take (3 * n) rows)
  chunk-more =
      let e : 3 * k + 3 ≡ 3 * (k + 1) = omega arith in
      sym (drop_at c more 3 three) ∙ rw (← cut, here, drop-drop 3 (3 * k) (take (3 * n) rows), e)

pub joined_more : (rows : List ℕ) (k q : ℕ) (u v w : List ℕ) → length v ≡ length u → Joined (columns_in rows k) q u v
    → MarkedWith (column_at rows k) q v w → Joined (columns_in rows (k + 1)) q u w
unfolding Joined MarkedWith together columns_in
joined_more rows k q u v w size inv m r h =
    let c = column_at rows k in
    rw add-one (m r (omega arith) ∙ rw (inv r h) (sym (or_assoc (holds c q && holds c r) (together (columns_in rows k) q r) (flag_at u r))))

pub with_held : (c : List ℕ) (q : ℕ) (u v : List ℕ) → holds c q ≡ true → Marked c u v → MarkedWith c q u v
unfolding Marked MarkedWith
with_held c q u v e m r h = rw e (m r h)

pub with_none : (c : List ℕ) (q : ℕ) (u : List ℕ) → holds c q ≡ false → MarkedWith c q u u
unfolding MarkedWith
with_none c q u e r h = rw e

pub joined-all : (cs : List (List ℕ)) (q : ℕ) (u v : List ℕ) → Joined cs q (set u q 1) v → AllMarked cs q u v
unfolding Joined AllMarked
joined-all cs q u v inv r h =
    inv r (simp length-set (omega arith)) ∙ rw (flag_set_at u q r h) (or_swap (eqb q r) (together cs q r) (flag_at u r))
