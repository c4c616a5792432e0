-- The four codes by number, as a round needs them: sizes, checks, kind of new messages, and the number of slots.
use Rattle.std.specs.Prelude.{ℕ, zero, suc, ◌*◌}
use Rattle.softmath.specs.declared.SumKind.{SumKind}
use Rattle.softmath.specs.declared.SumKind.TheVariants.{Total, Others}
-- N, M and the checks: defined in crate `numbered` (specs/Codes.antt)
pub use Rattle.numbered.specs.Codes.{by_code}
unfoldable pub use Rattle.numbered.specs.Codes.{size_n, size_m, checks_by}

-- the kind of new messages: "total minus the edge's own answer" for the staircase codes, "channel value plus the other two" for (174,91)
unfoldable pub kind_by : ℕ → SumKind
kind_by code = by_code code (λ c. Total) Others

-- how many slots there are, the entries of a check at most
unfoldable pub degree : ℕ → ℕ
degree zero = 5
degree (suc zero) = 8
degree (suc (suc zero)) = 11
degree (suc (suc (suc n))) = 7

-- the messages of a code by slots, pads included
unfoldable pub room : ℕ → ℕ
room code = degree code * size_m code
