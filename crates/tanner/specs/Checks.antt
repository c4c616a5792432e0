-- A code's checks, the count of unsatisfied checks of a word, and the first of them: the definitions that every code shares.
use Rattle.std.specs.Prelude.{◌≡◌, cond, List, [], ◌∷◌, map, ℕ, suc, ◌+◌, ◌%◌, ◌<◌, eqb, length, get_or}
use Rattle.std.specs.Int.Bits.{bit_xor}

-- one entry for each position
abbrev pub Word : Type 0
Word = List ℕ

-- for each check the positions that it covers, in row order
abbrev pub Checks : Type 0
Checks = List (List ℕ)

-- "In a word of bits, a check is unsatisfied where an odd number of its positions hold 1": 1 there, and 0 elsewhere
unfoldable pub parity : List ℕ → Word → ℕ
parity [] w = 0
parity (p ∷ ps) w = (get_or w p 0 + parity ps w) % 2

-- "the word's count is the number of such checks"
unfoldable pub count : Checks → Word → ℕ
count [] w = 0
count (c ∷ cs) w = parity c w + count cs w

-- the word of the low bits of bytes
unfoldable pub low_bits : List ℕ → Word
low_bits bytes = map (λ b. b % 2) bytes

-- the bytes at the positions, XORed whole onto x
unfoldable pub xor_from : ℕ → List ℕ → List ℕ → ℕ
xor_from x [] bytes = x
xor_from x (p ∷ ps) bytes = xor_from (bit_xor x (get_or bytes p 0)) ps bytes

-- 1 unless x is 0
abbrev pub nonzero : ℕ → ℕ
nonzero x = cond (eqb x 0) 0 1

-- the number of checks whose bytes, XORed whole, are not 0 (document 01: "`ldpc_count_errors` XORs whole bytes: 2 counts there")
unfoldable pub count_bytes : Checks → List ℕ → ℕ
count_bytes [] bytes = 0
count_bytes (c ∷ cs) bytes = nonzero (xor_from 0 c bytes) + count_bytes cs bytes

-- ---- the first check that a count includes (change request N8)

-- a check's number, counted from 0, or none
pub data First : Type 0 where
  check : ℕ → First
  none : First

-- the lowest-numbered check at which the measure is not 0; the first of the checks is number c
unfoldable pub first_by : (List ℕ → ℕ) → ℕ → Checks → First
first_by measure c [] = none
first_by measure c (r ∷ rs) = let more = first_by measure (suc c) rs in cond (eqb (measure r) 0) more (check c)

-- a count, and "the lowest-numbered check that the count includes, or none when it is 0"
pub record Syndrome : Type 0 where
  pub count : ℕ
  pub first : First

-- of a word of bits
abbrev pub first_unsatisfied : Checks → Word → First
first_unsatisfied cs w = first_by (λ r. parity r w) 0 cs

abbrev pub syndrome : Checks → Word → Syndrome
syndrome cs w = record { count = count cs w; first = first_unsatisfied cs w }

-- by whole bytes
abbrev pub syndrome_of_bytes : Checks → List ℕ → Syndrome
syndrome_of_bytes cs bytes = record { count = count_bytes cs bytes; first = first_by (λ r. nonzero (xor_from 0 r bytes)) 0 cs }

-- What it is to be the first: it is counted, and every check below it is not. None: no check is counted.
pub data FirstIs (measure : List ℕ → ℕ) (cs : Checks) : First → Type 0 where
  counted : (c : ℕ) → c < length cs → (measure (get_or cs c []) ≡ 0 → ⊥) → ((j : ℕ) → j < c → measure (get_or cs j []) ≡ 0) → FirstIs measure cs (check c)
  satisfied : ((j : ℕ) → j < length cs → measure (get_or cs j []) ≡ 0) → FirstIs measure cs none
