-- The entries of a column, by their places. By induction over the slots. Assumes nothing.
use mathlib.Core.Path.{◌≡◌, refl, ap, ◌∙◌}
use mathlib.Core.List.{List, [], ◌∷◌, ◌++◌, map}
use Prim.Native.Nat.{ℕ, zero, suc, ◌+◌, ◌*◌, ◌<◌, ◌≤◌}
use native.Mathlib.Nat.{suc-mul}
use native.Mathlib.Omega.{arith}
use lib.ListN.{length, get_or}
use lib.Ieee.{Float, nan}
use Rattle.lists.proofs.Parts.{map_at}
use Rattle.slots.specs.Columns.{column_from, column}
use Rattle.slots.proofs.Edges.{entry_below}

-- what the definition means: entry j lies at j * m + p
pub column_at : (m d p j : ℕ) (w : List Float) → j < d → get_or (column_from m d p w) j nan ≡ get_or w (j * m + p) nan
unfolding column_from
column_at m zero p j w h = absurd (omega arith)
column_at m (suc d) p zero w h = ap (λ (i : ℕ). get_or w i nan) (omega arith)
column_at m (suc d) p (suc j) w h =
    let e : j * m + (m + p) ≡ suc j * m + p = omega (arith, suc-mul j m) in
    column_at m d (m + p) j w (omega arith) ∙ ap (λ (i : ℕ). get_or w i nan) e

-- a column's last entry
pub column_last : (m d p : ℕ) (w : List Float) → column_from m (suc d) p w ≡ column_from m d p w ++ (get_or w (d * m + p) nan ∷ [])
unfolding column_from
column_last m zero p w = ap (λ (i : ℕ). get_or w i nan ∷ []) (omega arith)
column_last m (suc d) p w =
    let e : d * m + (m + p) ≡ suc d * m + p = omega (arith, suc-mul d m) in
    ap (λ (l : List Float). get_or w p nan ∷ l) (column_last m d (m + p) w ∙ ap (λ (i : ℕ). column_from m d (m + p) w ++ (get_or w i nan ∷ [])) e)

pub column-length : (m d p : ℕ) (w : List Float) → length (column_from m d p w) ≡ d
unfolding column_from
column-length m zero p w = refl
column-length m (suc d) p w = ap suc (column-length m d (m + p) w)

-- ---- a function of each entry

from-map : (f : Float → Float) (m d p : ℕ) (w : List Float) → ((j : ℕ) → j < d → j * m + p < length w) → column_from m d p (map f w)
    ≡ map f (column_from m d p w)
unfolding column_from
from-map f m zero p w h = refl
from-map f m (suc d) p w h =
    let first : p < length w = omega (arith, h 0 (omega arith)) in
    let rest = from-map f m d (m + p) w (λ j l. omega (arith, h (suc j) (omega arith), suc-mul j m)) in
    rw (map_at f w p nan nan first, rest)

-- a column of what a function leaves of each entry
pub column-map : (f : Float → Float) (m d c : ℕ) (w : List Float) → c < m → d * m ≤ length w → column m d c (map f w) ≡ map f (column m d c w)
column-map f m d c w h l = from-map f m d c w (λ j k. omega (arith, entry_below m d j c (j * m + c) h k refl))
