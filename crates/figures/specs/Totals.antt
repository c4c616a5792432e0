-- Totals over frames, and what is asked of them.
use Rattle.std.specs.Prelude.{Bool, cond, List, [], ◌∷◌, ℕ, ◌+◌, eqb, ltb, Result, Ok, Err}
use Rattle.refusal.specs.Outcome.{Outcome, accepted, refused, Condition, ◌when◌}
use Rattle.refusal.specs.Numbers.{number_of}
use Rattle.refusal.specs.declared.Refusal.{Refusal}
use Rattle.figures.specs.Fraction as terms
use Rattle.figures.specs.declared.Totals.{Totals}
use Rattle.figures.specs.declared.Fraction.{Fraction}

abbrev pub summed_of : Result Totals Refusal → Outcome Totals
summed_of (Ok t) = accepted t
summed_of (Err r) = refused (number_of r)

abbrev pub figure_of : Result Fraction Refusal → Outcome terms.Fraction
figure_of (Ok f) = accepted (record { over = f.numerator; under = f.denominator })
figure_of (Err r) = refused (number_of r)

-- "14 when a sum would pass its limit"
abbrev pub passed : ℕ → ℕ → ℕ → Bool
passed a b limit = ltb limit (a + b)

-- "each up to 18,446,744,073,709,551,615 except frames, up to 4,294,967,295"
abbrev pub join_refusals : Totals → Totals → List Condition
join_refusals a b =
    (14 when passed a.frames b.frames 4294967295)
    ∷ (14 when passed a.clean b.clean 18446744073709551615)
    ∷ (14 when passed a.counts b.counts 18446744073709551615)
    ∷ (14 when passed a.rounds b.rounds 18446744073709551615)
    ∷ []

-- "the same sums"
abbrev pub sums : Totals → Totals → Totals
sums a b = record {
  frames = a.frames + b.frames;
  clean = a.clean + b.clean;
  counts = a.counts + b.counts;
  rounds = a.rounds + b.rounds;
}

-- "15 when a fraction is asked of no frames"
abbrev pub fraction_refusals : ℕ → List Condition
fraction_refusals frames = (15 when eqb frames 0) ∷ []

-- ---- the totals of frames

-- what a frame adds: itself, itself if it is clean, its count and its rounds
abbrev pub of_frame : ℕ → ℕ → Bool → Totals
of_frame count rounds clean = record { frames = 1; clean = cond clean 1 0; counts = count; rounds = rounds }

pub record Frame : Type 0 where
  pub count : ℕ
  pub rounds : ℕ
  pub clean : Bool

abbrev pub nothing_yet : Totals
nothing_yet = record { frames = 0; clean = 0; counts = 0; rounds = 0 }

unfoldable pub totals_of : List Frame → Totals
totals_of [] = nothing_yet
totals_of (f ∷ fs) = sums (of_frame f.count f.rounds f.clean) (totals_of fs)
