-- What is promised of the line that is printed: its reason holds, and `clean` is printed exactly for a clean frame. A line that begins otherwise is not
-- `clean`. Assumes nothing.
use mathlib.Core.Path.{◌≡◌, refl, sym, ap, ◌∙◌}
use mathlib.Core.Bool.{true}
use mathlib.Core.List.{List}
use Prim.Native.Nat.{ℕ}
use native.Mathlib.Omega.{arith}
use lib.ListN.{get_or}
use Rattle.refusal.specs.Outcome.{Outcome, accepted, refused}
use Rattle.refusal.proofs.Judged.{verdict, judged_accepted, judged_refused}
use Rattle.tanner.specs.Checks.{Word, Checks}
use Rattle.text.specs.Text.{field, refusal_line, printed}
use Rattle.first_reason.specs.declared.Reason.{Reason}
use Rattle.first_reason.specs.declared.Reason.TheVariants.{Nan, Check, Checksum, Clean}
use Rattle.numbered.specs.Codes.{checks_by}
use Rattle.reason.specs.Under.{reason_under}
use Rattle.reason.proofs.Under.{under-holds, clean-exactly}
use Rattle.reason_lines.specs.Lines.{nan_line, check_line, checksum_line, clean_line, reason_line}
use Rattle.why.specs.Why.{why_refusals, frame_line, why_of}
use Rattle.why.specs.Promise.{Accepted, batch_asked, values_asked, word_asked, clean_asked, Explains, CleanPrinted}

-- ---- lines that differ

-- by the letter at a place
differ : (a b : List ℕ) (i : ℕ) → a ≡ b → get_or a i 0 ≡ get_or b i 0
differ a b i e = ap (λ (l : List ℕ). get_or l i 0) e

clean_alone : (checks : Checks) (word : Word) (r : Reason) → reason_line checks word r ≡ clean_line → r ≡ Clean
unfolding nan_line check_line checksum_line clean_line field
clean_alone checks word (Nan p) e = absurd (omega (arith, differ (nan_line p) clean_line 0 e))
clean_alone checks word (Check c) e = absurd (omega (arith, differ (check_line checks word c) clean_line 1 e))
clean_alone checks word (Checksum a b) e = absurd (omega (arith, differ (checksum_line a b) clean_line 1 e))
clean_alone checks word Clean e = refl

refused_differs : (k : ℕ) → refusal_line k ≡ clean_line → ⊥
unfolding refusal_line clean_line field
refused_differs k e = omega (arith, differ (refusal_line k) clean_line 0 e)

-- ---- what is printed

module _ (s : List ℕ) where
  abbrev reason_asked : Reason
  reason_asked = let b = batch_asked s in reason_under b.code b.rule b.scale (values_asked s) b.limit

  line-is : Accepted s → why_of s ≡ reason_line (checks_by (batch_asked s).code) (word_asked s) reason_asked
  unfolding why_of frame_line
  line-is v = rw (judged_accepted (why_refusals s) (frame_line (batch_asked s) (values_asked s)) v)

  -- "the printed reason holds of that frame", and "each earlier one doesn't"
  pub explains : Accepted s → Explains s
  explains v = let b = batch_asked s in record {
    reason = reason_asked;
    line = line-is v;
    holds = under-holds b.code b.rule b.scale (values_asked s) b.limit;
  }

  -- "`clean` appears only for a clean frame", and for each
  only-by : (o : Outcome Unit) → verdict (why_refusals s) ≡ o → why_of s ≡ clean_line → Accepted s × (clean_asked s ≡ true)
  unfolding why_of
  only-by (accepted tt) v e =
      let b = batch_asked s in
      let found = clean_alone (checks_by b.code) (word_asked s) reason_asked (sym (line-is v) ∙ e) in
      (v, (clean-exactly b.code b.rule b.scale (values_asked s) b.limit).only found)
  only-by (refused k) v e = absurd (refused_differs k (sym (ap printed (judged_refused (why_refusals s) (frame_line (batch_asked s) (values_asked s)) k v))
      ∙ e))

  pub clean-printed : CleanPrinted s
  clean-printed = record { only = only-by (verdict (why_refusals s)) refl; each = each }
    where
      each : Accepted s → clean_asked s ≡ true → why_of s ≡ clean_line
      each v h =
          let b = batch_asked s in
          line-is v ∙ ap (reason_line (checks_by b.code) (word_asked s)) ((clean-exactly b.code b.rule b.scale (values_asked s) b.limit).each h)
