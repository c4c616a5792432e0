-- The line that explains a frame (change request N11). A text is the list of its ASCII codes.
use Rattle.std.specs.Prelude.{List, [], ◌∷◌, ◌++◌, ℕ, ◌<◌, length, get_or}
use Rattle.tanner.specs.Checks.{Word, Checks}
use Rattle.text.specs.Text.{space, newline, hex_word, field}
use Rattle.first_reason.specs.declared.Reason.{Reason}
use Rattle.first_reason.specs.declared.Reason.TheVariants.{Nan, Check, Checksum, Clean}

-- ---- words

-- `nan `
abbrev pub nan_word : List ℕ
nan_word = 110 ∷ 97 ∷ 110 ∷ 32 ∷ []

-- `check `
abbrev pub check_word : List ℕ
check_word = 99 ∷ 104 ∷ 101 ∷ 99 ∷ 107 ∷ 32 ∷ []

-- `checksum `
abbrev pub checksum_word : List ℕ
checksum_word = 99 ∷ 104 ∷ 101 ∷ 99 ∷ 107 ∷ 115 ∷ 117 ∷ 109 ∷ 32 ∷ []

abbrev pub colon : List ℕ
colon = 58 ∷ []

-- ---- lines

-- "`nan` and the lowest such position within the frame"
unfoldable pub nan_line : ℕ → List ℕ
nan_line p = field nan_word p ++ newline

-- a position and a bit, "as `3:0`", with the space before them
unfoldable pub pair_text : ℕ → ℕ → List ℕ
pair_text p bit = field space p ++ field colon bit

-- a position "with the chosen word's bit, .. positions counted from 0"
unfoldable pub entry : Word → ℕ → List ℕ
entry word p = pair_text p (get_or word p 0)

-- "each of its positions .., in row order"
unfoldable pub entries : List ℕ → Word → List ℕ
entries [] word = []
entries (p ∷ ps) word = entry word p ++ entries ps word

-- "`check`, the lowest unsatisfied check's number, then each of its positions"
unfoldable pub check_line : Checks → Word → ℕ → List ℕ
check_line checks word c = field check_word c ++ (entries (get_or checks c []) word ++ newline)

-- "`checksum`, the carried and the computed value, four lower-case hexadecimal digits each"
unfoldable pub checksum_line : ℕ → ℕ → List ℕ
checksum_line carried computed = checksum_word ++ (hex_word carried ++ (space ++ (hex_word computed ++ newline)))

-- `clean` and the line's end
unfoldable pub clean_line : List ℕ
clean_line = 99 ∷ 108 ∷ 101 ∷ 97 ∷ 110 ∷ 10 ∷ []

-- "It prints one line, single spaces between fields": the line of a reason, of a code with these checks and a word
abbrev pub reason_line : Checks → Word → Reason → List ℕ
reason_line checks word (Nan p) = nan_line p
reason_line checks word (Check c) = check_line checks word c
reason_line checks word (Checksum carried computed) = checksum_line carried computed
reason_line checks word Clean = clean_line

-- a check that a reason names is one of the checks
abbrev pub Named : Checks → Reason → Type 0
Named checks (Nan p) = Unit
Named checks (Check c) = c < length checks
Named checks (Checksum carried computed) = Unit
Named checks Clean = Unit
