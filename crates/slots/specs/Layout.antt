-- The layout by slots: with m checks of at most d entries each, entry j of check c lies at place j * m + c. Slot j is the part from j * m to (j + 1) * m.
use Rattle.std.specs.Prelude.{◌≡◌, cond, List, [], ◌∷◌, map, ℕ, suc, ◌+◌, ◌-◌, ◌*◌, ◌<◌, ◌≤◌, ltb, Float, length, get_or, take, drop, set}
use Rattle.tanner.specs.Checks.{Checks}
use Rattle.tanner.specs.Flat.{joined, places}

-- the positions of check c
abbrev pub row : Checks → ℕ → List ℕ
row cs c = get_or cs c []

-- m checks, each of d entries, or of one less
pub record Slotted (cs : Checks) (m d : ℕ) : Type 0 where
  pub count : length cs ≡ m
  pub most : (c : ℕ) → c < m → length (row cs c) ≤ d
  pub least : (c : ℕ) → c < m → d ≤ suc (length (row cs c))

-- ---- the place of an edge

-- the place of edge e, where the first of the checks is check c
unfoldable pub slot_from : ℕ → ℕ → Checks → ℕ → ℕ
slot_from m c [] e = 0
slot_from m c (r ∷ rs) e = let later = slot_from m (suc c) rs (e - length r) in cond (ltb e (length r)) (e * m + c) later

-- edge e is entry j of check c: its place is j * m + c
abbrev pub slot_place : Checks → ℕ → ℕ → ℕ
slot_place cs m e = slot_from m 0 cs e

-- the places of position p's edges, checks ascending
abbrev pub slot_edges : Checks → ℕ → ℕ → List ℕ
slot_edges cs m p = map (slot_place cs m) (places p 0 (joined cs))

-- ---- the places after a check's last entry, where it has one less than d

-- where the first of the checks is check c
unfoldable pub pads_from : ℕ → ℕ → ℕ → Checks → List ℕ
pads_from m d c [] = []
pads_from m d c (r ∷ rs) = let later = pads_from m d (suc c) rs in cond (ltb (length r) d) ((length r * m + c) ∷ later) later

abbrev pub pad_places : Checks → ℕ → ℕ → List ℕ
pad_places cs m d = pads_from m d 0 cs

-- ---- parity bits, whose edges lie in the last two slots: the own row's in the slot that starts at `from`, and the next row's, where there is one, in the slot
-- after it

unfoldable pub parity_places : ℕ → ℕ → ℕ → List ℕ
parity_places from m i = cond (ltb (i + 1) m) ((from + i) ∷ ((from + m + (i + 1)) ∷ [])) ((from + i) ∷ [])

-- ---- a table of three places a position

-- the three of position b
unfoldable pub three_at : List ℕ → ℕ → List ℕ
three_at flat b = take 3 (drop (b * 3) flat)

-- a flat list cut into threes
unfoldable pub threes : List ℕ → List (List ℕ)
threes [] = []
threes (a ∷ []) = []
threes (a ∷ (b ∷ [])) = []
threes (a ∷ (b ∷ (c ∷ l))) = (a ∷ (b ∷ (c ∷ []))) ∷ threes l

-- ---- one value at several places

-- v at each of the places
unfoldable pub scattered : Float → List ℕ → List Float → List Float
scattered v [] w = w
scattered v (e ∷ es) w = scattered v es (set w e v)
