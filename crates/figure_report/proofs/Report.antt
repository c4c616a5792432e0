-- A file's step by what it gave; a report's last line is that of the totals of all frames counted. By cases on the answer, and by induction over the files.
use mathlib.Core.Path.{◌≡◌, refl, sym, ap, subst, ◌∙◌}
use mathlib.Core.List.{List, [], ◌∷◌, ◌++◌, append_assoc}
use Prim.Native.Nat.{ℕ, suc}
use native.Mathlib.Omega.{arith}
use Rattle.refusal.specs.Outcome.{Outcome, accepted, refused}
use Rattle.refusal.specs.Numbers.{number_of}
use Rattle.refusal.specs.declared.Refusal.{Refusal}
use Rattle.text.specs.Written.{Written}
use Rattle.text.proofs.Put.{nothing}
use Rattle.figures.specs.Totals.{totals_of, sums, nothing_yet}
use Rattle.figures.specs.declared.Totals.{Totals}
use Rattle.figures.proofs.Sums.{totals-joined, nothing-added, sums-nothing, sums_assoc}
use Rattle.figure_lines.specs.Lines.{totals_line, refused_line, unreadable_line}
use Rattle.figure_lines.specs.declared.Reason.TheVariants.{Refused, Unreadable}
use Rattle.figure_lines.proofs.Lengths.{file_short}
use Rattle.batch_figures.specs.Results.{batch_frames}
use Rattle.decoded_input.proofs.Answers.{judged-given}
use Rattle.input_figures.specs.Added.{input_results, input_totals, add_refusals, input_added}
use Rattle.figure_report.specs.Report.{
  File,
  bytes,
  unread,
  total_or,
  total_after,
  line_or,
  line_for,
  Stepped,
  report_from,
  frames_or,
  frames_of,
  frames_counted,
  lines_from,
  Reports,
}

-- ---- one file

module _ (place : ℕ) (t : Totals) where
  pub unread-step : (before after : List ℕ) (end : ℕ) → Written before 0 (unreadable_line place) after end
      → Stepped place t unread before after (record { total = t; end = end })
  unfolding total_after line_for
  unread-step before after end w = record { its_total = refl; its_line = w; short = omega (arith, w.end, file_short place Unreadable) }

  pub counted_step : (s before : List ℕ) (sum : Totals) → accepted sum ≡ input_added t s
      → Stepped place t (bytes s) before before (record { total = sum; end = 0 })
  unfolding total_after line_for
  counted_step s before sum e = record {
    its_total = ap (total_or t) e;
    its_line = subst (λ (o : Outcome Totals). Written before 0 (line_or place o) before 0) e (nothing before 0);
    short = omega arith;
  }

  pub refused-step : (s before after : List ℕ) (end : ℕ) (r : Refusal) → refused (number_of r) ≡ input_added t s
      → Written before 0 (refused_line place (number_of r)) after end
      → Stepped place t (bytes s) before after (record { total = t; end = end })
  unfolding total_after line_for
  refused-step s before after end r e w = record {
    its_total = ap (total_or t) e;
    its_line = subst (λ (o : Outcome Totals). Written before 0 (line_or place o) after end) e w;
    short = omega (arith, w.end, file_short place (Refused r));
  }

-- ---- all files

-- what a file's answer comes to: a sum that was made is the sum with the totals of its frames
sum_is : (t : Totals) (s : List ℕ) (u : Totals) → input_added t s ≡ accepted u → u ≡ sums t (input_totals s)
unfolding input_added
sum_is t s u e = (judged-given (add_refusals t s) (sums t (input_totals s)) u (sym e)).1

-- the total after a file is the one before it with the file's frames that are counted
one_counted : (t : Totals) (f : File) → total_after t f ≡ sums t (totals_of (frames_of t f))
unfolding total_after frames_of totals_of
one_counted t (bytes s) = by (input_added t s) refl
  where
    by : (o : Outcome Totals) → input_added t s ≡ o → total_or t o ≡ sums t (totals_of (frames_or (batch_frames (input_results s)) o))
    by (accepted u) e = sum_is t s u e
    by (refused k) e = sym (nothing-added t)
one_counted t unread = sym (nothing-added t)

report-from : (place : ℕ) (t : Totals) (fs : List File) → report_from place t fs
    ≡ lines_from place t fs ++ totals_line (sums t (totals_of (frames_counted t fs)))
unfolding report_from lines_from frames_counted totals_of
report-from place t [] = ap totals_line (sym (nothing-added t))
report-from place t (f ∷ fs) =
    let rest = frames_counted (total_after t f) fs in
    let total : sums (total_after t f) (totals_of rest) ≡ sums t (totals_of (frames_of t f ++ rest)) =
    ap (λ (x : Totals). sums x (totals_of rest)) (one_counted t f)
    ∙ sums_assoc t (totals_of (frames_of t f)) (totals_of rest)
    ∙ ap (sums t) (sym (totals-joined (frames_of t f) rest))
    in
    ap (λ (x : List ℕ). line_for place t f ++ x) (report-from (suc place) (total_after t f) fs)
    ∙ ap (λ (x : Totals). line_for place t f ++ (lines_from (suc place) (total_after t f) fs ++ totals_line x)) total
    ∙ sym (append_assoc (line_for place t f) (lines_from (suc place) (total_after t f) fs) (totals_line (sums t (totals_of (frames_of t f ++ rest)))))

pub reports : (fs : List File) → Reports fs
reports fs =
    report-from 1 nothing_yet fs
    ∙ ap (λ (x : Totals). lines_from 1 nothing_yet fs ++ totals_line x) (sums-nothing (totals_of (frames_counted nothing_yet fs)))
