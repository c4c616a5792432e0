-- The lines of the reception figures (change request N5): of a total, and of a file that is not counted. A text is the list of its ASCII codes.
use Rattle.std.specs.Prelude.{List, [], ◌∷◌, ◌++◌, ℕ}
use Rattle.refusal.specs.Outcome.{judged}
use Rattle.refusal.specs.Numbers.{number_of}
use Rattle.text.specs.Text.{space, newline, refusal_line, printed}
use Rattle.digits.specs.Digits.{digits, numbered}
use Rattle.figures.specs.Fraction.{Fraction, lowest}
use Rattle.figures.specs.Totals.{fraction_refusals}
use Rattle.figures.specs.declared.Totals.{Totals}
use Rattle.figure_lines.specs.declared.Reason.{Reason}
use Rattle.figure_lines.specs.declared.Reason.TheVariants.{Refused, Unreadable}

-- ---- words, with the spaces around them

-- `frames `
abbrev pub frames_word : List ℕ
frames_word = 102 ∷ 114 ∷ 97 ∷ 109 ∷ 101 ∷ 115 ∷ 32 ∷ []

-- ` clean `
abbrev pub clean_word : List ℕ
clean_word = 32 ∷ 99 ∷ 108 ∷ 101 ∷ 97 ∷ 110 ∷ 32 ∷ []

-- ` counts `
abbrev pub counts_word : List ℕ
counts_word = 32 ∷ 99 ∷ 111 ∷ 117 ∷ 110 ∷ 116 ∷ 115 ∷ 32 ∷ []

-- ` rounds `
abbrev pub rounds_word : List ℕ
rounds_word = 32 ∷ 114 ∷ 111 ∷ 117 ∷ 110 ∷ 100 ∷ 115 ∷ 32 ∷ []

-- ` share `
abbrev pub share_word : List ℕ
share_word = 32 ∷ 115 ∷ 104 ∷ 97 ∷ 114 ∷ 101 ∷ 32 ∷ []

-- ` mean `
abbrev pub mean_word : List ℕ
mean_word = 32 ∷ 109 ∷ 101 ∷ 97 ∷ 110 ∷ 32 ∷ []

-- `/`
abbrev pub slash : List ℕ
slash = 47 ∷ []

-- ` unreadable`
abbrev pub unreadable_word : List ℕ
unreadable_word = 32 ∷ 117 ∷ 110 ∷ 114 ∷ 101 ∷ 97 ∷ 100 ∷ 97 ∷ 98 ∷ 108 ∷ 101 ∷ []

-- ---- a total

-- `frames F clean C counts S rounds R`
unfoldable pub sums_text : Totals → List ℕ
sums_text t = numbered frames_word t.frames ++ (numbered clean_word t.clean ++ (numbered counts_word t.counts ++ numbered rounds_word t.rounds))

-- ` share A/B`
unfoldable pub fraction_text : List ℕ → Fraction → List ℕ
fraction_text word f = numbered word f.over ++ numbered slash f.under

-- "the share of clean frames and the mean count as fractions in lowest terms": `frames F clean C counts S rounds R share A/B mean D/E`
unfoldable pub figures_text : Totals → Fraction → Fraction → List ℕ
figures_text t share mean = sums_text t ++ (fraction_text share_word share ++ (fraction_text mean_word mean ++ newline))

-- the line of a total; "15 when a fraction is asked of no frames"
unfoldable pub totals_line : Totals → List ℕ
totals_line t = printed (judged (fraction_refusals t.frames) (figures_text t (lowest t.clean t.frames) (lowest t.counts t.frames)))

-- ---- a file that is not counted

-- its place, and why: `2 refused 13`
unfoldable pub refused_line : ℕ → ℕ → List ℕ
refused_line place number = digits place ++ (space ++ refusal_line number)

-- or `3 unreadable`
unfoldable pub unreadable_line : ℕ → List ℕ
unreadable_line place = digits place ++ (unreadable_word ++ newline)

abbrev pub file_line : ℕ → Reason → List ℕ
file_line place (Refused r) = refused_line place (number_of r)
file_line place Unreadable = unreadable_line place
