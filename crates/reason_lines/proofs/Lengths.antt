-- The lengths of the lines, as sums over their parts, and their bounds: a check has at most 11 positions. Assumes nothing.
use mathlib.Core.Path.{◌≡◌, refl}
use mathlib.Core.List.{List, [], ◌∷◌}
use Prim.Native.Nat.{ℕ, ◌+◌, ◌*◌, ◌≤◌}
use native.Mathlib.Omega.{arith}
use lib.Dec.{lit≤}
use lib.ListN.{length, get_or, length-append}
use Rattle.tanner.specs.Checks.{Word, Checks}
use Rattle.text.specs.Text.{space, field}
use Rattle.text.proofs.Lengths.{decimal_short, field-length}
use Rattle.first_reason.specs.declared.Reason.{Reason}
use Rattle.first_reason.specs.declared.Reason.TheVariants.{Nan, Check, Checksum, Clean}
use Rattle.reason_lines.specs.Lines.{nan_word, check_word, colon, nan_line, pair_text, entry, entries, check_line, checksum_line, clean_line, reason_line}

pub nan-length : (p : ℕ) → length (nan_line p) ≡ length (field nan_word p) + 1
unfolding nan_line
nan-length p = simp length-append

pub pair-length : (p bit : ℕ) → length (pair_text p bit) ≡ length (field space p) + length (field colon bit)
unfolding pair_text
pair-length p bit = simp length-append

pub check-length : (checks : Checks) (word : Word) (c : ℕ)
    → length (check_line checks word c) ≡ length (field check_word c) + (length (entries (get_or checks c []) word) + 1)
unfolding check_line
check-length checks word c = simp length-append

pub checksum_length : (carried computed : ℕ) → length (checksum_line carried computed) ≡ 19
unfolding checksum_line
checksum_length carried computed = refl

pair_short : (p bit : ℕ) → length (pair_text p bit) ≤ 12
pair_short p bit = omega (arith, pair-length p bit, field-length space p, field-length colon bit, decimal_short p, decimal_short bit)

entry_short : (word : Word) (p : ℕ) → length (entry word p) ≤ 12
unfolding entry
entry_short word p = pair_short _ _

entries_short : (ps : List ℕ) (word : Word) → length (entries ps word) ≤ 12 * length ps
unfolding entries
entries_short [] word = lit≤ tt
entries_short (p ∷ ps) word = simp length-append (omega (arith, entry_short word p, entries_short ps word))

abbrev pub Short : Checks → Type 0
Short checks = (c : ℕ) → length (get_or checks c []) ≤ 11

module _ (checks : Checks) (word : Word) (short : Short checks) where
  pub check-short : (c : ℕ) → length (check_line checks word c) ≤ 256
  check-short c =
      omega (arith, check-length checks word c, field-length check_word c, decimal_short c, entries_short (get_or checks c []) word, short c)

  pub reason-short : (r : Reason) → length (reason_line checks word r) ≤ 256
  unfolding clean_line
  reason-short (Nan p) = omega (arith, nan-length p, field-length nan_word p, decimal_short p)
  reason-short (Check c) = check-short c
  reason-short (Checksum carried computed) = omega (arith, checksum_length carried computed)
  reason-short Clean = lit≤ tt
