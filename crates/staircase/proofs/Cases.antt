-- The check list and the encoding of a small code, by computation: three message columns, of rows 0 and 1, 1 and 2, 0 and 2, and three parity columns,
-- 3, 4 and 5. Assumes nothing.
use mathlib.Core.Path.{◌≡◌, refl}
use mathlib.Core.List.{List, [], ◌∷◌}
use Prim.Native.Nat.{ℕ}
use Rattle.columns.specs.Rows.{holds}
use Rattle.tanner.specs.Checks.{parity, low_bits}
use Rattle.staircase.specs.Staircase.{taps, parity_entries, check_row, check_rows, checks_of, parity_bits, encoded}

abbrev small : List (List ℕ)
small = (0 ∷ 1 ∷ []) ∷ (1 ∷ 2 ∷ []) ∷ (0 ∷ 2 ∷ []) ∷ []

-- "A row lists message columns ascending, then K+i, then K+i-1", and row 0 has one parity entry
pub rows_listed : checks_of 3 3 small ≡ (0 ∷ 2 ∷ 3 ∷ []) ∷ (0 ∷ 1 ∷ 4 ∷ 3 ∷ []) ∷ (1 ∷ 2 ∷ 5 ∷ 4 ∷ []) ∷ []
unfolding check_rows check_row taps parity_entries holds
rows_listed = refl

-- bytes 1, 2 and 3 are sent whole, and their low bits 1, 0 and 1 make the parity bits 0, 1 and 0
pub bytes-encoded : encoded 3 small (1 ∷ 2 ∷ 3 ∷ []) ≡ 1 ∷ 2 ∷ 3 ∷ 0 ∷ 1 ∷ 0 ∷ []
unfolding encoded parity_bits taps parity low_bits holds
bytes-encoded = refl
