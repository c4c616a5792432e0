-- What the code counts, for words of bits and for whole bytes alike: a check whose bytes, XORed whole, have a bit of the mask. With mask 1 it is the count
-- of the low bits, with mask 255 that of whole bytes (`proofs/Count.antt`, `proofs/First.antt`).
use Rattle.std.specs.Prelude.{List, [], ◌∷◌, ℕ, ◌+◌}
use Rattle.std.specs.Int.Bits.{bit_and}
use Rattle.tanner.specs.Checks.{Checks, xor_from, nonzero, First, first_by, Syndrome}

-- 1 for a check that has a bit of the mask
abbrev pub measured : ℕ → List ℕ → List ℕ → ℕ
measured mask bytes r = nonzero (bit_and (xor_from 0 r bytes) mask)

-- the number of such checks
unfoldable pub count_masked : ℕ → Checks → List ℕ → ℕ
count_masked mask [] bytes = 0
count_masked mask (c ∷ cs) bytes = nonzero (bit_and (xor_from 0 c bytes) mask) + count_masked mask cs bytes

-- the first of them
abbrev pub first_masked : ℕ → Checks → List ℕ → First
first_masked mask cs bytes = first_by (measured mask bytes) 0 cs

abbrev pub syndrome_masked : ℕ → Checks → List ℕ → Syndrome
syndrome_masked mask cs bytes = record { count = count_masked mask cs bytes; first = first_masked mask cs bytes }
