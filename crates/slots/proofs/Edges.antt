-- An edge is an entry of a check, and no two edges have the same place by slots. By induction over the checks. Assumes nothing.
use mathlib.Core.Path.{◌≡◌, sym, ap, ◌∙◌}
use mathlib.Core.Logic.{◌≢◌}
use mathlib.Core.List.{List, [], ◌∷◌, ◌++◌}
use Prim.Native.Nat.{ℕ, zero, suc, ◌+◌, ◌-◌, ◌*◌, ◌/◌, ◌%◌, ◌<◌, ◌≤◌}
use native.Mathlib.Nat.{suc-mul, mul-le-mul_right, mul-add-mod_self_right, mod-eq_of_lt, mul-add-div_right, div-eq_of_lt}
use native.Mathlib.Decide.{dec_lt}
use native.Mathlib.Omega.{arith}
use borrow.Author.Tests.{lt-ltb, le-ltb}
use lib.ListN.{length, take, length-append}
use Rattle.tanner.specs.Checks.{Checks}
use Rattle.tanner.specs.Flat.{joined}
use Rattle.slots.specs.Layout.{row, Slotted, slot_from, slot_place}

-- ---- an edge is an entry of a check

-- the number of edges before check c
abbrev pub start : Checks → ℕ → ℕ
start cs c = length (joined (take c cs))

-- edge e is this entry of this check, where the first of the checks is check k
pub record Edge (cs : Checks) (m k e : ℕ) : Type 0 where
  pub check : ℕ
  pub entry : ℕ
  pub known : check < length cs
  pub inside : entry < length (row cs check)
  pub whole : e ≡ start cs check + entry
  pub place : slot_from m k cs e ≡ entry * m + (k + check)

-- one check more in front
start_later : (r : List ℕ) (rs : Checks) (c : ℕ) → start (r ∷ rs) (suc c) ≡ length r + start rs c
unfolding joined
start_later r rs c = length-append r (joined (take c rs))

edges_later : (r : List ℕ) (rs : Checks) → length (joined (r ∷ rs)) ≡ length r + length (joined rs)
unfolding joined
edges_later r rs = length-append r (joined rs)

no_edge : (e : ℕ) → e < length (joined {A = ℕ} []) → ⊥
unfolding joined
no_edge e h = omega arith

module _ (m : ℕ) where
  edge_here : (r : List ℕ) (rs : Checks) (k e : ℕ) → e < length r → Edge (r ∷ rs) m k e
  unfolding slot_from joined
  edge_here r rs k e h = record { check = 0; entry = e; known = omega arith; inside = h; whole = omega arith; place = rw (lt-ltb e (length r) h) (omega arith) }

  place-later : (r : List ℕ) (rs : Checks) (k e : ℕ) → length r ≤ e → slot_from m k (r ∷ rs) e ≡ slot_from m (suc k) rs (e - length r)
  unfolding slot_from
  place-later r rs k e h = rw (le-ltb e (length r) h)

  edge-later : (r : List ℕ) (rs : Checks) (k e : ℕ) → length r ≤ e → Edge rs m (suc k) (e - length r) → Edge (r ∷ rs) m k e
  edge-later r rs k e h i = record {
    check = suc i.check;
    entry = i.entry;
    known = omega (arith, i.known);
    inside = i.inside;
    whole = omega (arith, start_later r rs i.check, i.whole);
    place = omega (arith, place-later r rs k e h, i.place);
  }

  edge_by : (r : List ℕ) (rs : Checks) (k e : ℕ) → e < length (joined (r ∷ rs)) → (e - length r < length (joined rs) → Edge rs m (suc k) (e - length r))
      → Dec (e < length r) → Edge (r ∷ rs) m k e
  edge_by r rs k e h f (yes y) = edge_here r rs k e y
  edge_by r rs k e h f (no n) = edge-later r rs k e (omega arith) (f (omega (arith, edges_later r rs)))

  edge-from : (cs : Checks) (k e : ℕ) → e < length (joined cs) → Edge cs m k e
  edge-from [] k e h = absurd (no_edge e h)
  edge-from (r ∷ rs) k e h = edge_by r rs k e h (λ l. edge-from rs (suc k) (e - length r) l) (dec_lt e (length r))

  pub edge_of : (cs : Checks) (e : ℕ) → e < length (joined cs) → Edge cs m 0 e
  edge_of cs e h = edge-from cs 0 e h

  -- the other way: entry j of check c is an edge, and this is its place
  entry-from : (cs : Checks) (k c j : ℕ) → c < length cs → j < length (row cs c) → slot_from m k cs (start cs c + j) ≡ j * m + (k + c)
  unfolding slot_from joined
  entry-from [] k c j h l = absurd (omega arith)
  entry-from (r ∷ rs) k zero j h l =
      let z : 0 + j ≡ j = omega arith in
      rw (z, lt-ltb j (length r) l) (omega arith)
  entry-from (r ∷ rs) k (suc c) j h l =
      let s : length (r ++ joined (take c rs)) + j - length r ≡ start rs c + j = simp length-append (omega arith) in
      let t : length r ≤ length (r ++ joined (take c rs)) + j = simp length-append (omega arith) in
      rw (le-ltb (length (r ++ joined (take c rs)) + j) (length r) t, s) (entry-from rs (suc k) c j (omega arith) l ∙ omega arith)

  pub entry_place : (cs : Checks) (c j : ℕ) → c < length cs → j < length (row cs c) → slot_place cs m (start cs c + j) ≡ j * m + c
  entry_place cs c j h l = entry-from cs 0 c j h l ∙ omega arith

pub entry_inside : (cs : Checks) (c : ℕ) → c < length cs → start cs c + length (row cs c) ≤ length (joined cs)
unfolding joined
entry_inside [] c h = absurd (omega arith)
entry_inside (r ∷ rs) zero h = simp length-append (omega arith)
entry_inside (r ∷ rs) (suc c) h = simp length-append (omega (arith, entry_inside rs c (omega arith)))

-- ---- no two edges have the same place

-- an entry and a check below m, from the place
pub same_check : (m i j c k : ℕ) → c < m → k < m → i * m + c ≡ j * m + k → c ≡ k
same_check m i j c k h l e =
    sym (mod-eq_of_lt h) ∙ sym (mul-add-mod_self_right i m c) ∙ ap (λ (x : ℕ). x % m) e ∙ mul-add-mod_self_right j m k ∙ mod-eq_of_lt l

pub same-entry : (m i j c k : ℕ) → c < m → k < m → i * m + c ≡ j * m + k → i ≡ j
same-entry m i j c k h l e =
    let p : 0 < m = omega arith in
    let a : (i * m + c) / m ≡ i + c / m = mul-add-div_right p i c in
    let b : (j * m + k) / m ≡ j + k / m = mul-add-div_right p j k in
    omega (arith, a, b, ap (λ (x : ℕ). x / m) e, div-eq_of_lt h, div-eq_of_lt l)

-- it is a place of the d slots
pub entry_below : (m d j c x : ℕ) → c < m → j < d → x ≡ j * m + c → x < d * m
entry_below m d j c x h l e =
    let n : suc j ≤ d = omega arith in
    omega (arith, suc-mul j m, mul-le-mul_right m n)

module _ (cs : Checks) (m d : ℕ) (s : Slotted cs m d) where
  pub slot-injective : (e f : ℕ) → e < length (joined cs) → f < length (joined cs) → slot_place cs m e ≡ slot_place cs m f → e ≡ f
  slot-injective e f h l q =
      let a = edge_of m cs e h in
      let b = edge_of m cs f l in
      let ac : a.check < m = omega (arith, s.count, a.known) in
      let bc : b.check < m = omega (arith, s.count, b.known) in
      let same : a.entry * m + a.check ≡ b.entry * m + b.check = omega (arith, a.place, b.place, q) in
      let c : a.check ≡ b.check = same_check m a.entry b.entry a.check b.check ac bc same in
      let i : a.entry ≡ b.entry = same-entry m a.entry b.entry a.check b.check ac bc same in
      a.whole ∙ rw (c, i) (sym b.whole)

  -- the place of an edge is one of the d slots
  pub slot-inside : (e : ℕ) → e < length (joined cs) → slot_place cs m e < d * m
  slot-inside e h =
      let a = edge_of m cs e h in
      let ac : a.check < m = omega (arith, s.count, a.known) in
      let j : suc a.entry ≤ d = omega (arith, a.inside, s.most a.check ac) in
      entry_below m d a.entry a.check (slot_place cs m e) ac j (omega (arith, a.place))

  -- no edge lies at the place after a check's last entry
  pub pad-apart : (c : ℕ) → c < m → (e : ℕ) → e < length (joined cs) → slot_place cs m e ≢ length (row cs c) * m + c
  pad-apart c h e l q =
      let a = edge_of m cs e l in
      let ac : a.check < m = omega (arith, s.count, a.known) in
      let at : a.entry * m + a.check ≡ length (row cs c) * m + c = omega (arith, a.place) in
      let same : a.check ≡ c = same_check m a.entry (length (row cs c)) a.check c ac h at in
      let entry : a.entry ≡ length (row cs c) = same-entry m a.entry (length (row cs c)) a.check c ac h at in
      let inside : a.entry < length (row cs c) = rw same at a.inside in
      omega arith
