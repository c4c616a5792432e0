-- Answers known beforehand, computed.
use mathlib.Core.Path.{◌≡◌, refl}
use mathlib.Core.List.{[], ◌∷◌}
use Rattle.text.specs.Text.{leading, decimal, field, refusal_line}
use Rattle.digits.specs.Digits.{digits_from, digits, numbered}
use Rattle.figures.specs.Fraction.{gcd_within, gcd, lowest}
use Rattle.figures.specs.Totals.{nothing_yet}
use Rattle.figure_lines.specs.Lines.{sums_text, fraction_text, figures_text, totals_line, refused_line, unreadable_line, file_line}
use Rattle.figure_lines.specs.declared.Reason.TheVariants.{Refused, Unreadable}
use Rattle.refusal.specs.declared.Refusal.TheVariants.{Malformed}

-- `frames 24 clean 18 counts 60 rounds 301 share 3/4 mean 5/2`
some : totals_line (record { frames = 24; clean = 18; counts = 60; rounds = 301 }) ≡
    102 ∷ 114 ∷ 97 ∷ 109 ∷ 101 ∷ 115 ∷ 32 ∷ 50 ∷ 52 ∷ 32 ∷ 99 ∷ 108 ∷ 101 ∷ 97 ∷ 110 ∷ 32 ∷ 49 ∷ 56 ∷ 32 ∷ 99 ∷ 111 ∷ 117 ∷ 110 ∷ 116 ∷ 115 ∷ 32 ∷ 54 ∷
    48 ∷ 32 ∷ 114 ∷ 111 ∷ 117 ∷ 110 ∷ 100 ∷ 115 ∷ 32 ∷ 51 ∷ 48 ∷ 49 ∷ 32 ∷ 115 ∷ 104 ∷ 97 ∷ 114 ∷ 101 ∷ 32 ∷ 51 ∷ 47 ∷ 52 ∷ 32 ∷ 109 ∷ 101 ∷ 97 ∷ 110 ∷
    32 ∷ 53 ∷ 47 ∷ 50 ∷ 10 ∷ []
unfolding totals_line figures_text sums_text fraction_text numbered digits digits_from leading lowest gcd gcd_within
some = refl

-- of no frames `refused 15`
none : totals_line nothing_yet ≡ 114 ∷ 101 ∷ 102 ∷ 117 ∷ 115 ∷ 101 ∷ 100 ∷ 32 ∷ 49 ∷ 53 ∷ 10 ∷ []
unfolding totals_line figures_text sums_text fraction_text numbered digits digits_from leading lowest gcd gcd_within refusal_line field decimal
none = refl

-- `2 refused 13` and `3 unreadable`
files : (file_line 2 (Refused Malformed) ≡ 50 ∷ 32 ∷ 114 ∷ 101 ∷ 102 ∷ 117 ∷ 115 ∷ 101 ∷ 100 ∷ 32 ∷ 49 ∷ 51 ∷ 10 ∷ [])
    × (file_line 3 Unreadable ≡ 51 ∷ 32 ∷ 117 ∷ 110 ∷ 114 ∷ 101 ∷ 97 ∷ 100 ∷ 97 ∷ 98 ∷ 108 ∷ 101 ∷ 10 ∷ [])
unfolding refused_line unreadable_line digits digits_from leading refusal_line field decimal
files = (refl, refl)
