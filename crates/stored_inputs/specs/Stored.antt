-- What reading a stored input promises: its bytes lie within the buffer, which has so many.
use Rattle.std.specs.Prelude.{ℕ, Option, Some, None, ◌≤◌}

abbrev pub Held : Option ℕ → ℕ → Type 0
Held (Some n) size = n ≤ size
Held None size = Unit
