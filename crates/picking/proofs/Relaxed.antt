-- The relaxed pick: the first row outside a column that is found, its two parts, and what a search found, settled. Inductions over the rows.
use Rattle.std.proofs.Common.{◌≡◌, refl, sym, ◌∙◌, Bool, true, false, cond, not, Option, Some, None, unwrap_or, List, [], ◌∷◌, ◌++◌, ℕ, zero, suc, add-one}
use Rattle.std.specs.List.{find, range_with_len}
use Rattle.std.specs.Option.{option_map}
use Rattle.columns.specs.Rows.{holds}
use Rattle.picking.specs.Picks.{Found, up_from, once_round, first_outside, settled}

-- ---- the rows from one to another, looked through for the first that is outside
unwrap_if : (b : Bool) (r other : ℕ) (o : Option ℕ) (a : ℕ) → unwrap_or o other ≡ a → unwrap_or (cond (not b) (Some r) o) other ≡ cond b a r
unwrap_if true r other o a e = e
unwrap_if false r other o a e = refl

find_outside : (c : List ℕ) (n a other : ℕ) → unwrap_or (find (λ r. not (holds c r)) (range_with_len a n)) other ≡ first_outside c (up_from a n) other
unfolding first_outside up_from
find_outside c zero a other = refl
find_outside c (suc n) a other = unwrap_if (holds c a) a other _ _ (rw add-one (find_outside c n (suc a) other))

map-same : (o : Option ℕ) → option_map (λ r. r) o ≡ o
map-same None = refl
map-same (Some r) = refl

-- r is what `find` gives
pub outside-first : (c : List ℕ) (n a other : ℕ) (r : Option ℕ) → option_map (λ q. q) r ≡ find (λ q. not (holds c q)) (range_with_len a n)
    → unwrap_or r other ≡ first_outside c (up_from a n) other
outside-first c n a other r e = rw (sym (map-same r) ∙ e) (find_outside c n a other)

pub outside_append : (c xs ys : List ℕ) (other : ℕ) → first_outside c xs (first_outside c ys other) ≡ first_outside c (xs ++ ys) other
unfolding first_outside
outside_append c [] ys other = refl
outside_append c (x ∷ xs) ys other = rw (outside_append c xs ys other)

-- ---- what a search found, settled
pub settled-row : (m : ℕ) (picked : List ℕ) (start r : ℕ) {f : Found} → f ≡ Some r → record { row = r; relaxed = 0 } ≡ settled m picked start f
unfolding settled
settled-row m picked start r e = rw e

pub settled_relaxed : (m : ℕ) (picked : List ℕ) (start r : ℕ) {f : Found} → f ≡ None → r ≡ first_outside picked (once_round m start) 0
    → record { row = r; relaxed = 1 } ≡ settled m picked start f
unfolding settled
settled_relaxed m picked start r e p = rw (e, p)
