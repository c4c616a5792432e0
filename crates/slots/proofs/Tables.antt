-- A code's table of three places a position, and its pads, from where its checks start and what positions they name: two computed tests, and the laws that turn
-- them into the layout's. By induction over the checks. Assumes nothing.
use mathlib.Core.Path.{◌≡◌, refl, sym, ap, ◌∙◌}
use mathlib.Core.Bool.{true, false, cond}
use mathlib.Core.List.{List, [], ◌∷◌, map}
use Prim.Native.Nat.{ℕ, zero, suc, ◌+◌, ◌-◌, ◌*◌, ◌<◌, ◌≤◌}
use native.Mathlib.Nat.{zero-add}
use native.Mathlib.Decide.{dec_lt}
use native.Mathlib.Omega.{arith}
use borrow.Author.Tests.{lt-ltb, le-ltb}
use lib.Dec.{ltb}
use lib.ListN.{length, get_or, drop, length-map, get_or-map}
use Rattle.tanner.specs.Checks.{Checks}
use Rattle.tanner.specs.Flat.{joined, ends, offsets, places, edges_from}
use Rattle.tanner.proofs.Flat.{offsets-length, edges_length, edges_at}
use Rattle.slots.specs.Layout.{row, Slotted, slot_from, slot_place, slot_edges, pads_from, pad_places, three_at, threes}

-- the place of edge e, where check c starts at a and each ends where the list says
unfoldable pub slot_by : ℕ → ℕ → ℕ → List ℕ → ℕ → ℕ
slot_by m c a [] e = 0
slot_by m c a (b ∷ bs) e = let later = slot_by m (suc c) b bs e in cond (ltb e b) ((e - a) * m + c) later

-- the pads of the same checks
unfoldable pub pads_by : ℕ → ℕ → ℕ → ℕ → List ℕ → List ℕ
pads_by m d c a [] = []
pads_by m d c a (b ∷ bs) = let later = pads_by m d (suc c) b bs in cond (ltb (b - a) d) (((b - a) * m + c) ∷ later) later

module _ (m : ℕ) where
  slot-by : (r : List ℕ) (rs : Checks) (c a e : ℕ)
      → ((f : ℕ) → slot_from m (suc c) rs f ≡ slot_by m (suc c) (a + length r) (ends (a + length r) rs) (a + length r + f))
      → Dec (e < length r) → slot_from m c (r ∷ rs) e ≡ slot_by m c a (ends a (r ∷ rs)) (a + e)
  unfolding slot_from slot_by ends
  slot-by r rs c a e ih (yes y) =
      let t : ltb (a + e) (a + length r) ≡ true = lt-ltb (a + e) (a + length r) (omega arith) in
      let s : a + e - a ≡ e = omega arith in
      rw (lt-ltb e (length r) y, t, s)
  slot-by r rs c a e ih (no n) =
      let l : length r ≤ e = omega arith in
      let t : ltb (a + e) (a + length r) ≡ false = le-ltb (a + e) (a + length r) (omega arith) in
      let s : a + length r + (e - length r) ≡ a + e = omega arith in
      rw (le-ltb e (length r) l, t) (rw s at (ih (e - length r)))

  slot-from : (cs : Checks) (c a e : ℕ) → slot_from m c cs e ≡ slot_by m c a (ends a cs) (a + e)
  unfolding slot_from slot_by ends
  slot-from [] c a e = refl
  slot-from (r ∷ rs) c a e = slot-by r rs c a e (λ f. slot-from rs (suc c) (a + length r) f) (dec_lt e (length r))

  pads-from : (d : ℕ) (cs : Checks) (c a : ℕ) → pads_from m d c cs ≡ pads_by m d c a (ends a cs)
  unfolding pads_from pads_by ends
  pads-from d [] c a = refl
  pads-from d (r ∷ rs) c a =
      let s : a + length r - a ≡ length r = omega arith in
      rw (s, pads-from d rs (suc c) (a + length r))

row-size : (cs : Checks) (a c : ℕ) → c < length cs → length (row cs c) ≡ get_or (ends a cs) c 0 - get_or (a ∷ ends a cs) c 0
unfolding ends
row-size [] a c h = absurd (omega arith)
row-size (r ∷ rs) a zero h = omega arith
row-size (r ∷ rs) a (suc c) h = row-size rs (a + length r) c (omega arith)

map_same : (f g : ℕ → ℕ) → ((e : ℕ) → f e ≡ g e) → (es : List ℕ) → map f es ≡ map g es
map_same f g h [] = refl
map_same f g h (e ∷ es) = rw (h e, map_same f g h es)

-- ---- three a position

threes_at : (l : List ℕ) (b : ℕ) → b < length (threes l) → get_or (threes l) b [] ≡ three_at l b
unfolding threes three_at
threes_at [] b h = absurd (omega arith)
threes_at (x ∷ []) b h = absurd (omega arith)
threes_at (x ∷ (y ∷ [])) b h = absurd (omega arith)
threes_at (x ∷ (y ∷ (z ∷ l))) zero h = refl
threes_at (x ∷ (y ∷ (z ∷ l))) (suc b) h =
    let e : suc b * 3 ≡ suc (suc (suc (b * 3))) = omega arith in
    rw e (threes_at l b (omega arith))

-- ---- the laws

module _ (cs : Checks) (m : ℕ) (starts : List ℕ) (e : starts ≡ offsets cs) where
  place_same : (x : ℕ) → slot_by m 0 0 (drop 1 starts) x ≡ slot_place cs m x
  place_same x =
      ap (λ (s : List ℕ). slot_by m 0 0 (drop 1 s) x) e
      ∙ sym (rw zero-add at (slot-from m cs 0 0 x))

  -- each position's places
  pub table-edges : (n : ℕ) (bits flat : List ℕ) → bits ≡ joined cs → threes flat ≡ map (map (slot_by m 0 0 (drop 1 starts))) (edges_from 0 n bits)
      → (b : ℕ) → b < n → three_at flat b ≡ slot_edges cs m b
  table-edges n bits flat p t b h =
      let f = slot_by m 0 0 (drop 1 starts) in
      let size : length (threes flat) ≡ n = ap length t ∙ length-map (edges_from 0 n bits) (map f) ∙ edges_length 0 n bits in
      let own : get_or (edges_from 0 n bits) b [] ≡ places b 0 (joined cs) = (rw zero-add at (edges_at 0 n b bits h)) ∙ ap (places b 0) p in
      sym (threes_at flat b (omega (arith, size)))
      ∙ ap (λ (l : List (List ℕ)). get_or l b []) t
      ∙ get_or-map (map f) (edges_from 0 n bits) b []
      ∙ ap (map f) own
      ∙ map_same f (slot_place cs m) place_same (places b 0 (joined cs))

  -- the pads
  pub table-pads : (d : ℕ) (pads : List ℕ) → pads ≡ pads_by m d 0 0 (drop 1 starts) → pads ≡ pad_places cs m d
  table-pads d pads p = p ∙ ap (λ (l : List ℕ). pads_by m d 0 0 (drop 1 l)) e ∙ sym (pads-from m d cs 0 0)

  -- each check has d entries, or one less
  pub table-slotted : (d : ℕ) → length starts ≡ suc m → ((c : ℕ) → c < m → get_or starts (suc c) 0 - get_or starts c 0 ≤ d)
      → ((c : ℕ) → c < m → d ≤ suc (get_or starts (suc c) 0 - get_or starts c 0)) → Slotted cs m d
  table-slotted d many most least =
      let rows : length cs ≡ m = omega (arith, ap length e, offsets-length cs) in
      let size : (c : ℕ) → c < m → length (row cs c) ≡ get_or starts (suc c) 0 - get_or starts c 0 =
      λ c h. row-size cs 0 c (omega (arith, rows)) ∙ ap (λ (s : List ℕ). get_or s (suc c) 0 - get_or s c 0) (sym e) in
      record {
        count = rows;
        most = λ c h. omega (arith, size c h, most c h);
        least = λ c h. omega (arith, size c h, least c h);
      }
