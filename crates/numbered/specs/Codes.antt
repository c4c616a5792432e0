-- The four codes by number: sizes and checks.
use Rattle.std.specs.Prelude.{ℕ, zero, suc}
use Rattle.construction.specs.Codes.{Code, block_length}
use Rattle.staircase.specs.Codes.{code_of}
use Rattle.staircase.specs.Codes as staircase
use Rattle.code174.specs.Code174 as code174
use Rattle.tanner.specs.Checks.{Checks}

-- "Code 0 to 2 as above, 3 is (174,91)." (A number above 3 is refused.)
abbrev pub by_code : {A : Type 0} → ℕ → (Code → A) → A → A
by_code zero f a = f (code_of 0)
by_code (suc zero) f a = f (code_of 1)
by_code (suc (suc zero)) f a = f (code_of 2)
by_code (suc (suc (suc n))) f a = a

-- N, the bits of a word and the values of a frame; K, its message bits, "91 for code 3"; and M, its checks
unfoldable pub size_n : ℕ → ℕ
size_n code = by_code code (λ c. block_length c) 174

unfoldable pub size_k : ℕ → ℕ
size_k code = by_code code (λ c. c.k) 91

unfoldable pub size_m : ℕ → ℕ
size_m code = by_code code (λ c. c.m) 83

-- the checks
unfoldable pub checks_by : ℕ → Checks
checks_by code = by_code code (λ c. staircase.checks c) code174.checks
