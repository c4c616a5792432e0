-- Numbers of up to 20 digits, as every u64 is, in decimal. A text is the list of its ASCII codes.
use Rattle.std.specs.Prelude.{List, [], ◌∷◌, ◌++◌, ℕ, zero, suc, ◌+◌, ◌-◌, ◌*◌, ◌%◌, ◌^◌}
use Rattle.text.specs.Text.{leading}

-- the digits of weight 10 ^ k down to 10, without the zeros in front, and then the last digit
unfoldable pub digits_from : ℕ → ℕ → List ℕ
digits_from zero n = (48 + n % 10) ∷ []
digits_from (suc k) n = leading (10 ^ suc k) n ++ digits_from k n

-- a number below 10 ^ 20
unfoldable pub digits : ℕ → List ℕ
digits n = digits_from 19 n

-- a word and a number after it
unfoldable pub numbered : List ℕ → ℕ → List ℕ
numbered word n = word ++ digits n

-- ---- reading them back

-- the number that a text of digits says, the most significant first, after one that was read
unfoldable pub read_after : ℕ → List ℕ → ℕ
read_after n [] = n
read_after n (d ∷ ds) = read_after (10 * n + (d - 48)) ds

abbrev pub read_back : List ℕ → ℕ
read_back text = read_after 0 text
