-- The first unsatisfied check as one number: "65,535 for none".
use Rattle.std.specs.Prelude.{ℕ}
use Rattle.tanner.specs.Checks.{First, check, none}

abbrev pub place_of : First → ℕ
place_of (check c) = c
place_of none = 65535
