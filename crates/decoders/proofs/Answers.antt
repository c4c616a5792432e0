-- The numbers of codes, case by case, and what a call that is accepted answers. Assumes nothing.
use mathlib.Core.Path.{◌≡◌, refl, sym, ap, ◌∙◌}
use mathlib.Core.List.{List}
use Prim.Native.Nat.{ℕ, zero, suc, ◌<◌, ◌≤◌}
use native.Mathlib.Omega.{arith}
use borrow.Author.Tests.{lt-ltb, le-ltb, eq-eqb, ne_eqb}
use lib.Ieee.{Float}
use lib.ListN.{length}
use Rattle.refusal.specs.Outcome.{accepted}
use Rattle.refusal.proofs.Judged.{verdict, nothing, judged_accepted, kept_accepted}
use Rattle.construction.specs.Codes.{block_length}
use Rattle.staircase.specs.Codes.{code_of}
use Rattle.softmath.specs.declared.DecodeRule.{DecodeRule}
use Rattle.rounds.specs.Told.{Chose, told_by}
use Rattle.work_area.specs.Area.{cleared}
use Rattle.one_round.specs.Held.{decode_at}
use Rattle.passes.specs.Codes.{size_n, checks_by, kind_by}
use Rattle.rounds.specs.declared.Decoded.{Decoded}
use Rattle.decoders.specs.Decodes.{staircase_decode, ft8_decode}
use Rattle.decoders.specs.Calls.{Single, Answered, soft_with_refusals, frame_refusals}

-- ---- numbers

-- the decode at a staircase code's number, and its sizes
pub staircase-at : (code : ℕ) → code < 3 → (rule : DecodeRule) (llr : List Float) → decode_at code rule llr ≡ staircase_decode (code_of code) rule llr
unfolding checks_by kind_by
staircase-at zero h rule llr = refl
staircase-at (suc zero) h rule llr = refl
staircase-at (suc (suc zero)) h rule llr = refl
staircase-at (suc (suc (suc n))) h rule llr = absurd (omega arith)

pub size_of : (code : ℕ) → code < 3 → block_length (code_of code) ≡ size_n code
unfolding size_n
size_of zero h = refl
size_of (suc zero) h = refl
size_of (suc (suc zero)) h = refl
size_of (suc (suc (suc n))) h = absurd (omega arith)

-- and at (174,91)'s
pub ft8-at : (rule : DecodeRule) (llr : List Float) → decode_at 3 rule llr ≡ ft8_decode rule llr
unfolding checks_by kind_by
ft8-at rule llr = refl

-- ---- accepted calls

module _ (s : Single) where
  pub decoded : verdict s.refusals ≡ nothing → (r : Decoded) (bits : List ℕ) (work : List Float)
      → Chose s.decode s.limit s.size r bits → work ≡ cleared s.work → Answered s (accepted (told_by r)) bits work
  decoded e r bits work h z = record {
    tells = ap accepted h.tells ∙ sym (judged_accepted s.refusals _ e);
    its_bits = h.front ∙ sym (kept_accepted s.refusals s.bits _ e);
    its_work = z ∙ sym (kept_accepted s.refusals s.work _ e);
  }

-- the lengths are right
pub lengths-right : (n k : ℕ) (llr : List Float) (bits : List ℕ) (work : List Float) → length llr ≡ n → length bits ≡ k → 3070 ≤ length work
    → verdict (frame_refusals n k llr bits work) ≡ nothing
lengths-right n k llr bits work a b c = simp (eq-eqb (length llr) n a, eq-eqb (length bits) k b, le-ltb (length work) 3070 c)

-- and so are the numbers
pub soft-right : (code rule : ℕ) (llr : List Float) (bits : List ℕ) (work : List Float) → code < 3 → rule < 4
    → length llr ≡ block_length (code_of code) → length bits ≡ (code_of code).k → 3070 ≤ length work
    → verdict (soft_with_refusals code rule llr bits work) ≡ nothing
soft-right code rule llr bits work c r a b w =
    simp (lt-ltb code 3 c, le-ltb 4 rule (omega arith), ne_eqb rule 4 (λ e. omega arith))
    (lengths-right (block_length (code_of code)) (code_of code).k llr bits work a b w)
