-- The number of each code, and what a number from outside is.
use Rattle.std.specs.Prelude.{◌≡◌, ℕ, ◌<◌, Result, MatchResult}
use Rattle.refusal.specs.declared.Refusal.{Refusal}
use Rattle.refusal.specs.declared.Refusal.TheVariants.{UnknownCode}
use Rattle.numbered.specs.declared.Code.{Code}
use Rattle.numbered.specs.declared.Code.TheVariants.{N512R12, N576R23, N512R34, Ft8}

abbrev pub code_number : Code → ℕ
code_number N512R12 = 0
code_number N576R23 = 1
code_number N512R34 = 2
code_number Ft8 = 3

-- what `u32::from` gives of a code
abbrev pub numbers : Code → ℕ → Type 0
numbers code n = n ≡ code_number code

-- what `Code::try_from` gives of a number: its code, or the refusal of a number above 3
abbrev pub found_by : ℕ → Result Code Refusal → Type 0
found_by number r = MatchResult r (λ code. code_number code ≡ number) (λ e. (e ≡ UnknownCode) × (3 < number))
