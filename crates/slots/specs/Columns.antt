-- What a check's messages are in a work area that is laid by slots: a column; and a work area with each column, or one alone, replaced.
use Rattle.std.specs.Prelude.{◌≡◌, ℕ, zero, suc, ◌+◌, ◌<◌, List, [], ◌∷◌, Float, length, get_or}
use Rattle.std.specs.Float.{nan}

-- d entries of w: the first at place p, and each m places after the one before it
unfoldable pub column_from : ℕ → ℕ → ℕ → List Float → List Float
column_from m zero p w = []
column_from m (suc d) p w = get_or w p nan ∷ column_from m d (m + p) w

-- the entries of check c: w's at c, m + c, 2 m + c and so on, d of them
abbrev pub column : ℕ → ℕ → ℕ → List Float → List Float
column m d c w = column_from m d c w

-- v is w with each of the m columns of d entries answered by f
pub record AtColumns (f : List Float → List Float) (m d : ℕ) (w v : List Float) : Type 0 where
  pub size : length v ≡ length w
  pub columns : (c : ℕ) → c < m → column m d c v ≡ f (column m d c w)

-- v is w with xs in column c of d entries, and no other column changed
pub record ColumnIs (m d c : ℕ) (xs w v : List Float) : Type 0 where
  pub size : length v ≡ length w
  pub here : column m d c v ≡ xs
  pub apart : (k : ℕ) → k < m → (k ≡ c → ⊥) → column m d k v ≡ column m d k w
