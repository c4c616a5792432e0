-- A line of a listing (document 01, "The program"). A text is the list of its ASCII codes.
use Rattle.std.specs.Prelude.{Bool, cond, List, [], ◌∷◌, ◌++◌, ℕ, eqb}
use Rattle.text.specs.Text.{space, newline, decimal, hex, field}

-- ---- words, with the spaces around them

-- `code `
abbrev pub code_word : List ℕ
code_word = 99 ∷ 111 ∷ 100 ∷ 101 ∷ 32 ∷ []

-- ` rule `
abbrev pub rule_word : List ℕ
rule_word = 32 ∷ 114 ∷ 117 ∷ 108 ∷ 101 ∷ 32 ∷ []

-- ` limit `
abbrev pub limit_word : List ℕ
limit_word = 32 ∷ 108 ∷ 105 ∷ 109 ∷ 105 ∷ 116 ∷ 32 ∷ []

-- ` frames `
abbrev pub frames_word : List ℕ
frames_word = 32 ∷ 102 ∷ 114 ∷ 97 ∷ 109 ∷ 101 ∷ 115 ∷ 32 ∷ []

-- ` clean `
abbrev pub clean_word : List ℕ
clean_word = 32 ∷ 99 ∷ 108 ∷ 101 ∷ 97 ∷ 110 ∷ 32 ∷ []

-- ` open `
abbrev pub open_word : List ℕ
open_word = 32 ∷ 111 ∷ 112 ∷ 101 ∷ 110 ∷ 32 ∷ []

-- ---- lines

-- "The head line repeats the numbers as given": `code 3 rule 0 limit 20 frames 1`
unfoldable pub head_line : ℕ → ℕ → ℕ → ℕ → List ℕ
head_line code rule limit frames = field code_word code ++ (field rule_word rule ++ (field limit_word limit ++ (field frames_word frames ++ newline)))

-- the word of a frame that is clean, or is not
unfoldable pub clean_or_open : Bool → List ℕ
clean_or_open clean = cond clean clean_word open_word

-- change request N8: "the line of a frame whose count is above 0 gets [the first check] as a last field, counted from 0"
unfoldable pub first_field : ℕ → ℕ → List ℕ
first_field count first = cond (eqb count 0) [] (field space first)

-- "Fields of a frame line: place, count, `clean` or `open`, bits packed .. in lower-case hexadecimal", with the rounds as "third field, before `clean`"
-- (change request N1): `0 0 0 clean 00..`
unfoldable pub frame_line : ℕ → ℕ → ℕ → Bool → List ℕ → ℕ → List ℕ
frame_line place count rounds clean bits first =
    decimal place ++ (field space count ++ (field space rounds ++ (clean_or_open clean ++ (hex bits ++ (first_field count first ++ newline)))))
