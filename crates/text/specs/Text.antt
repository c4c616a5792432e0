-- Numbers and bits as text: decimal numbers, bits packed into bytes in hexadecimal, and the line of a refusal. A text is the list of its ASCII codes.
use Rattle.std.specs.Prelude.{cond, List, [], ◌∷◌, ◌++◌, ℕ, zero, suc, ◌+◌, ◌*◌, ◌/◌, ◌%◌, ltb, length, get_or}
use Rattle.refusal.specs.Outcome.{Outcome, accepted, refused}

-- ---- decimal numbers

-- the digit of weight p, left out where the number is below p: a number has no leading zero
unfoldable pub leading : ℕ → ℕ → List ℕ
leading p n = cond (ltb n p) [] ((48 + n / p % 10) ∷ [])

-- a number below 100,000
unfoldable pub decimal : ℕ → List ℕ
decimal n = leading 10000 n ++ (leading 1000 n ++ (leading 100 n ++ (leading 10 n ++ ((48 + n % 10) ∷ []))))

-- ---- bits

-- bit i; a zero where there is none ("last byte filled with zeros")
abbrev pub bit_at : List ℕ → ℕ → ℕ
bit_at bits i = get_or bits i 0 % 2

-- "bits packed most significant first": the byte of eight bits from i on
unfoldable pub byte_at : List ℕ → ℕ → ℕ
byte_at bits i =
    128 * bit_at bits i + 64 * bit_at bits (i + 1) + 32 * bit_at bits (i + 2) + 16 * bit_at bits (i + 3)
    + 8 * bit_at bits (i + 4) + 4 * bit_at bits (i + 5) + 2 * bit_at bits (i + 6) + bit_at bits (i + 7)

-- "lower-case hexadecimal": 0 to 9, then a to f
unfoldable pub hex_digit : ℕ → ℕ
hex_digit d = cond (ltb d 10) (48 + d) (87 + d)

-- a byte, two digits
abbrev pub hex_byte : ℕ → List ℕ
hex_byte b = hex_digit (b / 16) ∷ hex_digit (b % 16) ∷ []

-- a number below 65,536, four digits
abbrev pub hex_word : ℕ → List ℕ
hex_word n = hex_byte (n / 256) ++ hex_byte (n % 256)

-- the n bytes of the bits from i on
unfoldable pub hex_from : List ℕ → ℕ → ℕ → List ℕ
hex_from bits i zero = []
hex_from bits i (suc n) = hex_byte (byte_at bits i) ++ hex_from bits (i + 8) n

-- as many bytes as the bits need
unfoldable pub hex : List ℕ → List ℕ
hex bits = hex_from bits 0 ((length bits + 7) / 8)

-- ---- words and lines

abbrev pub space : List ℕ
space = 32 ∷ []

abbrev pub newline : List ℕ
newline = 10 ∷ []

-- `refused `
abbrev pub refused_word : List ℕ
refused_word = 114 ∷ 101 ∷ 102 ∷ 117 ∷ 115 ∷ 101 ∷ 100 ∷ 32 ∷ []

-- a word and a number after it
unfoldable pub field : List ℕ → ℕ → List ℕ
field word n = word ++ decimal n

-- "A refusal prints only one line, as `refused 13`, with the number that applies."
unfoldable pub refusal_line : ℕ → List ℕ
refusal_line number = field refused_word number ++ newline

-- what is printed for an answer: its text, or the line of its refusal
abbrev pub printed : Outcome (List ℕ) → List ℕ
printed (accepted text) = text
printed (refused number) = refusal_line number
