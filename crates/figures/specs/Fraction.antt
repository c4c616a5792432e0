-- A fraction in lowest terms: both of its numbers divided by their greatest common divisor.
use Rattle.std.specs.Prelude.{ℕ, zero, suc, ◌/◌, ◌%◌}

-- Euclid's division, at most n times: `proofs/Euclid.antt` says that this divides both and that every common divisor divides it
unfoldable pub gcd_within : ℕ → ℕ → ℕ → ℕ
gcd_within zero a b = a
gcd_within (suc n) a zero = a
gcd_within (suc n) a (suc b) = gcd_within n (suc b) (a % suc b)

-- a division leaves less than it divided by, so b of them are enough
unfoldable pub gcd : ℕ → ℕ → ℕ
gcd a b = gcd_within b a b

pub record Fraction : Type 0 where
  pub over : ℕ
  pub under : ℕ

unfoldable pub lowest : ℕ → ℕ → Fraction
lowest n d = record { over = n / gcd n d; under = d / gcd n d }
