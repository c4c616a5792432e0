-- How long the lines can be, part by part: a number has at most 20 digits. The room that is left after a part.
use mathlib.Core.Path.{◌≡◌}
use mathlib.Core.Bool.{Bool, true, false, cond}
use mathlib.Core.List.{List}
use Prim.Native.Nat.{ℕ, ◌+◌, ◌≤◌}
use native.Mathlib.Omega.{arith}
use lib.Dec.{eqb}
use lib.ListN.{length, length-append}
use Rattle.refusal.specs.Outcome.{accepted, refused}
use Rattle.refusal.specs.Numbers.{number_of}
use Rattle.text.specs.Text.{printed}
use Rattle.text.specs.Written.{Written}
use Rattle.text.proofs.Put.{put-length}
use Rattle.text.proofs.Lengths.{refusal_short}
use Rattle.digits.specs.Digits.{digits, numbered}
use Rattle.digits.proofs.Digits.{digits_short, numbered-length}
use Rattle.figures.specs.Fraction.{Fraction, lowest}
use Rattle.figures.specs.declared.Totals.{Totals}
use Rattle.figure_lines.specs.Lines.{frames_word, clean_word, counts_word, rounds_word, share_word, mean_word, slash}
use Rattle.figure_lines.specs.Lines.{sums_text, fraction_text, figures_text, totals_line, refused_line, unreadable_line, file_line}
use Rattle.figure_lines.specs.declared.Reason.{Reason}
use Rattle.figure_lines.specs.declared.Reason.TheVariants.{Refused, Unreadable}

-- with room for a text of so many bytes and for the rest, there is room for the rest after it
pub room_after : {out : List ℕ} {at : ℕ} {s after : List ℕ} {next : ℕ} (bound rest : ℕ) → Written out at s after next → length s ≤ bound
    → at + (bound + rest) ≤ length out → next + rest ≤ length after
room_after {out} {at} {s} {after} {next} bound rest w short room =
    let size : length after ≡ length out = rw w.bytes (put-length out at s (omega arith)) in
    omega (arith, size, w.end)

-- ---- a total

pub number_short : (word : List ℕ) (n : ℕ) → length (numbered word n) ≤ length word + 20
number_short word n = omega (arith, numbered-length word n, digits_short n)

pub number-room : (word : List ℕ) (n at size : ℕ) → at + (length word + 20) ≤ size → at + length (numbered word n) ≤ size
number-room word n at size h = omega (arith, number_short word n)

pub sums_short : (t : Totals) → length (sums_text t) ≤ 110
unfolding sums_text
sums_short t =
    simp length-append
    (omega (
      arith,
      number_short frames_word t.frames,
      number_short clean_word t.clean,
      number_short counts_word t.counts,
      number_short rounds_word t.rounds,
    ))

pub fraction_short : (word : List ℕ) (f : Fraction) → length (fraction_text word f) ≤ length word + 41
unfolding fraction_text
fraction_short word f = simp length-append (omega (arith, number_short word f.over, number_short slash f.under))

pub fraction-room : (word : List ℕ) (f : Fraction) (at size : ℕ) → at + (length word + 41) ≤ size → at + length (fraction_text word f) ≤ size
fraction-room word f at size h = omega (arith, fraction_short word f)

figures_short : (t : Totals) (share mean : Fraction) → length (figures_text t share mean) ≤ 206
unfolding figures_text
figures_short t share mean = simp length-append (omega (arith, sums_short t, fraction_short share_word share, fraction_short mean_word mean))

pub totals_short : (t : Totals) → length (totals_line t) ≤ 206
unfolding totals_line
totals_short t = by (eqb t.frames 0)
  where
    line : List ℕ
    line = figures_text t (lowest t.clean t.frames) (lowest t.counts t.frames)

    by : (b : Bool) → length (printed (cond b (refused 15) (accepted line))) ≤ 206
    by true = omega (arith, refusal_short 15)
    by false = figures_short t (lowest t.clean t.frames) (lowest t.counts t.frames)

-- ---- a file

pub digits-room : (n at size : ℕ) → at + 20 ≤ size → at + length (digits n) ≤ size
digits-room n at size h = omega (arith, digits_short n)

pub file_short : (place : ℕ) (reason : Reason) → length (file_line place reason) ≤ 35
unfolding refused_line unreadable_line
file_short place (Refused r) = simp length-append (omega (arith, digits_short place, refusal_short (number_of r)))
file_short place Unreadable = simp length-append (omega (arith, digits_short place))
