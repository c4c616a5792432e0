-- Small answers of the filling of erasures: by computation.
use mathlib.Core.Path.{◌≡◌, refl}
use mathlib.Core.List.{[], ◌∷◌}
use Rattle.tanner.specs.Checks.{Checks, parity}
use Rattle.filling.specs.Filling.{unknowns, others, setting_in, lowest, fill_by, filled, filled_word, filled_places, listed}

-- checks 0 1 2 and 2 3
two : Checks
two = (0 ∷ 1 ∷ 2 ∷ []) ∷ (2 ∷ 3 ∷ []) ∷ []

-- one after the other
both_word : filled_word two (1 ∷ 2 ∷ 0 ∷ 2 ∷ []) ≡ 1 ∷ 1 ∷ 0 ∷ 0 ∷ []
unfolding two unknowns others parity setting_in lowest fill_by filled filled_word
both_word = refl

both_places : listed (filled_places two (1 ∷ 2 ∷ 0 ∷ 2 ∷ [])) (9 ∷ 9 ∷ 9 ∷ 9 ∷ []) ≡ 1 ∷ 3 ∷ 9 ∷ 9 ∷ []
unfolding two unknowns others parity setting_in lowest fill_by filled filled_places
both_places = refl

-- check 1 sets position 2, and then check 0 has one unknown alone
back_word : filled_word two (1 ∷ 2 ∷ 2 ∷ 1 ∷ []) ≡ 1 ∷ 0 ∷ 1 ∷ 1 ∷ []
unfolding two unknowns others parity setting_in lowest fill_by filled filled_word
back_word = refl

back-places : filled_places two (1 ∷ 2 ∷ 2 ∷ 1 ∷ []) ≡ 2 ∷ 1 ∷ []
unfolding two unknowns others parity setting_in lowest fill_by filled filled_places
back-places = refl

-- two unknowns in each check: nothing is set
stuck_word : filled_word two (2 ∷ 1 ∷ 2 ∷ 2 ∷ []) ≡ 2 ∷ 1 ∷ 2 ∷ 2 ∷ []
unfolding two unknowns others parity setting_in lowest fill_by filled filled_word
stuck_word = refl

stuck_places : filled_places two (2 ∷ 1 ∷ 2 ∷ 2 ∷ []) ≡ []
unfolding two unknowns others parity setting_in lowest fill_by filled filled_places
stuck_places = refl
