-- What a call tells beside its signed number, part by part: each goes through a reference that is lent for it, and a refused call leaves that as it was.
use Rattle.std.specs.Prelude.{◌≡◌, ℕ, ℤ}
use Rattle.refusal.specs.Outcome.{Outcome}
use Rattle.tanner.specs.Checks.{Syndrome}
use Rattle.rounds.specs.Told.{Told}
use Rattle.check_places.specs.Places.{place_of}
use Rattle.first_reason.specs.declared.Reason.{Reason}
use Rattle.first_reason.specs.declared.Reason.TheVariants.{Nan, Check, Checksum, Clean}
use Rattle.cycles.specs.Calls.{Report}
use Rattle.coded.specs.Coded.{coded_by, Lent, told_in}

-- a count, with its first check ("65,535 for none", change request N8)
pub record Counts (outcome : Outcome Syndrome) (n : ℤ) (first : Lent) : Type 0 where
  pub its_count : n ≡ coded_by (λ s. s.count) outcome
  pub its_first : first.after ≡ told_in (λ s. place_of s.first) outcome first.before

-- a decode: the count, the rounds run (N1) and the first check
pub record Decodes (outcome : Outcome Told) (n : ℤ) (rounds first : Lent) : Type 0 where
  pub its_count : n ≡ coded_by (λ t. t.count) outcome
  pub its_rounds : rounds.after ≡ told_in (λ t. t.rounds) outcome rounds.before
  pub its_first : first.after ≡ told_in (λ t. place_of t.first) outcome first.before

-- a reason (N11) as three numbers: which it is, 0 for a clean frame; the NaN's position, the check's number or the carried checksum; and the computed
-- checksum, each 0 where the reason has none
abbrev pub kind_of : Reason → ℕ
kind_of (Nan p) = 1
kind_of (Check c) = 2
kind_of (Checksum carried computed) = 3
kind_of Clean = 0

abbrev pub part_of : Reason → ℕ
part_of (Nan p) = p
part_of (Check c) = c
part_of (Checksum carried computed) = carried
part_of Clean = 0

abbrev pub computed_of : Reason → ℕ
computed_of (Nan p) = 0
computed_of (Check c) = 0
computed_of (Checksum carried computed) = computed
computed_of Clean = 0

pub record Explains (outcome : Outcome Reason) (n : ℤ) (part computed : Lent) : Type 0 where
  pub its_kind : n ≡ coded_by kind_of outcome
  pub its_part : part.after ≡ told_in part_of outcome part.before
  pub its_computed : computed.after ≡ told_in computed_of outcome computed.before

-- a list of cycles: how many, and the relaxed picks (N14)
pub record Lists (outcome : Outcome Report) (n : ℤ) (relaxed : Lent) : Type 0 where
  pub its_cycles : n ≡ coded_by (λ r. r.cycles) outcome
  pub its_relaxed : relaxed.after ≡ told_in (λ r. r.relaxed) outcome relaxed.before
