-- `reason_text::reason_line` meets its contract, reason by reason. Assumes nothing.
use mathlib.Core.Path.{subst}
use mathlib.Core.List.{List}
use Prim.Native.Nat.{ℕ, ◌≤◌}
use native.Mathlib.Omega.{arith}
use lib.ListN.{length}
use Rattle.first_reason.specs.declared.Reason.{Reason}
use Rattle.first_reason.specs.declared.Reason.TheVariants.{Nan, Check, Checksum, Clean}
use Rattle.numbered.specs.Codes.{checks_by}
use Rattle.numbered.specs.Numbers.{code_number}
use Rattle.reason_lines.specs.Lines.{clean_line, reason_line, Named}
use Rattle.reason_lines.proofs.Lengths.{reason-short}
use Rattle.reason_text.proofs.Tables.{all_short, line_of}
use Rattle.reason_text.proofs.reason_line.Goals as goal

-- the line of each reason has room
short : (code : ℕ) (word out : List ℕ) (r : Reason) → 256 ≤ length out → length (reason_line (checks_by code) word r) ≤ length out
short code word out r room = omega (arith, reason-short (checks_by code) word (all_short code) r, room)

pub nan_line-requires : goal.nan_line-requires
nan_line-requires c = short (code_number c.args.code) c.args.word.now c.args.out.now (Nan _) c.requires.in_bounds

pub check_line-requires : goal.check_line-requires
check_line-requires c = record {
  word_len = c.requires.word_len;
  c_in_bounds = subst (Named (checks_by (code_number c.args.code))) c.in-Check.is c.requires.named;
  in_bounds = c.requires.in_bounds;
}

pub checksum_line-requires : goal.checksum_line-requires
checksum_line-requires c = short (code_number c.args.code) c.args.word.now c.args.out.now (Checksum _ _) c.requires.in_bounds

pub returns-in-Nan : goal.returns-in-Nan
returns-in-Nan c =
    let all = line_of (code_number c.args.code) c.args.word.now c.args.reason (Nan _) c.in-Nan.is c.nan_line.ensures in
    record { written = all.0; upper_bound = all.1 }

pub returns-in-Check : goal.returns-in-Check
returns-in-Check c =
    let all = line_of (code_number c.args.code) c.args.word.now c.args.reason (Check _) c.in-Check.is c.check_line.ensures in
    record { written = all.0; upper_bound = all.1 }

pub returns-in-Checksum : goal.returns-in-Checksum
returns-in-Checksum c =
    let all = line_of (code_number c.args.code) c.args.word.now c.args.reason (Checksum _ _) c.in-Checksum.is c.checksum_line.ensures in
    record { written = all.0; upper_bound = all.1 }

pub returns-in-Clean : goal.returns-in-Clean
unfolding clean_line
returns-in-Clean c =
    let all = line_of (code_number c.args.code) c.args.word.now c.args.reason Clean c.in-Clean.is c.put_text.ensures in
    record { written = all.0; upper_bound = all.1 }
