-- How the code searches: the rows are met one after another, and the best so far is kept. What an answer of the code says.
use Rattle.std.specs.Prelude.{Bool, true, false, Some, None, List, [], ◌∷◌, ◌≡◌, ℕ, ◌<◌, get_or}
use Rattle.std.specs.Int.{from_bool}
use Rattle.picking.specs.Picks.{Found, Choice, least_of}
use Rattle.picking.specs.declared.Taken.{Taken}

-- what an answer of the code says
abbrev pub choice_of : Taken → Choice
choice_of t = record { row = t.row; relaxed = from_bool t.relaxed }

-- a row met by the search, after what was found before it
unfoldable pub met_row : (ℕ → ℕ) → Bool → ℕ → Found → Found
met_row loads true r f = f
met_row loads false r None = Some r
met_row loads false r (Some q) = Some (least_of loads q (r ∷ []))

-- the rows met one after another
unfoldable pub met_rows : (ℕ → ℕ) → (ℕ → Bool) → List ℕ → Found → Found
met_rows loads skip [] f = f
met_rows loads skip (r ∷ rs) f = met_rows loads skip rs (met_row loads (skip r) r f)

-- nothing beats what is found: it is a row with no load
abbrev pub Unbeaten : List ℕ → Found → Type 0
Unbeaten ls (Some r) = get_or ls r 0 ≡ 0
Unbeaten ls None = ⊥

-- what is found lies below m
abbrev pub FoundBelow : ℕ → Found → Type 0
FoundBelow m (Some r) = r < m
FoundBelow m None = Unit

unfoldable pub load_at : List ℕ → ℕ → ℕ
load_at ls r = get_or ls r 0
