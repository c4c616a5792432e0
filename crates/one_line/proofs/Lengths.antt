-- The lengths of the lines, as sums over their parts, and their bounds: a frame has at most 384 bits. Assumes nothing.
use mathlib.Core.Path.{◌≡◌}
use mathlib.Core.Bool.{Bool, true, false, cond}
use mathlib.Core.List.{List, []}
use Prim.Native.Nat.{ℕ, ◌+◌, ◌≤◌}
use native.Mathlib.Omega.{arith}
use lib.Dec.{eqb, lit≤}
use lib.ListN.{length, length-append}
use Rattle.text.specs.Text.{space, decimal, hex, field}
use Rattle.text.proofs.Lengths.{decimal_short, field-length, hex-length}
use Rattle.one_line.specs.Line.{code_word, rule_word, limit_word, frames_word, head_line, clean_or_open, first_field, frame_line}

pub head_length : (code rule limit frames : ℕ) → length (head_line code rule limit frames)
    ≡ length (field code_word code) + (length (field rule_word rule) + (length (field limit_word limit) + (length (field frames_word frames) + 1)))
unfolding head_line
head_length code rule limit frames = simp length-append

pub frame-length : (place count rounds : ℕ) (clean : Bool) (bits : List ℕ) (first : ℕ) → length (frame_line place count rounds clean bits first)
    ≡ length (decimal place) + (length (field space count) + (length (field space rounds)
    + (length (clean_or_open clean) + (length (hex bits) + (length (first_field count first) + 1)))))
unfolding frame_line
frame-length place count rounds clean bits first = simp length-append (omega arith)

state_short : (clean : Bool) → length (clean_or_open clean) ≤ 7
unfolding clean_or_open
state_short true = lit≤ tt
state_short false = lit≤ tt

field_short : (n : ℕ) → length (field space n) ≤ 6
field_short n = omega (arith, field-length space n, decimal_short n)

short_by : (b : Bool) (first : ℕ) → length (cond b [] (field space first)) ≤ 6
short_by true first = lit≤ tt
short_by false first = field_short first

first_short : (count first : ℕ) → length (first_field count first) ≤ 6
unfolding first_field
first_short count first = short_by (eqb count 0) first

pub frame_short : (place count rounds : ℕ) (clean : Bool) (bits : List ℕ) (first : ℕ) → length bits ≤ 384
    → length (frame_line place count rounds clean bits first) ≤ 127
frame_short place count rounds clean bits first h =
    omega (
      arith,
      frame-length place count rounds clean bits first,
      decimal_short place,
      field_short count,
      field_short rounds,
      state_short clean,
      hex-length
          bits,
      first_short count first,
    )

pub head_short : (code rule limit frames : ℕ) → length (head_line code rule limit frames) ≤ 47
head_short code rule limit frames =
    omega (
      arith,
      head_length code rule limit frames,
      field-length code_word code,
      field-length rule_word rule,
      field-length limit_word limit,
      field-length frames_word frames,
      decimal_short code,
      decimal_short rule,
      decimal_short limit,
      decimal_short frames,
    )
