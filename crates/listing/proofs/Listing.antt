-- The listing is short; the listing of what is handed on is the listing of all. Assumes nothing.
use mathlib.Core.Path.{◌≡◌}
use mathlib.Core.Bool.{false}
use mathlib.Core.List.{List, []}
use Prim.Native.Nat.{ℕ, ◌≤◌}
use native.Mathlib.Omega.{arith}
use lib.Ieee.{Float}
use lib.ListN.{length, length-append}
use Rattle.refusal.specs.Outcome.{refused}
use Rattle.refusal.proofs.Judged.{verdict, nothing, judged_accepted, judged_refused}
use Rattle.text.specs.Text.{refusal_line}
use Rattle.batch.specs.Pairs.{pairs_of}
use Rattle.batch.specs.Calls.{Lent, lent, Batch, batch, refusals, frames, written}
use Rattle.batch_input.specs.Input.{code_of, rule_of, limit_of, scale_of, pair_numbers, values_of, malformed}
use Rattle.batch_input.specs.Handed.{batch_in}
use Rattle.batch_input.proofs.Handed.{accepted_few, pairs_many}
use Rattle.one_line.specs.Line.{head_line}
use Rattle.lines.specs.Lines.{line_at, lines_from}
use Rattle.one_line.proofs.Lengths.{head_short}
use Rattle.lines.proofs.Lines.{line_short, lines_short}
use Rattle.listing.specs.Listing.{frames_text, listing_of}

-- the whole text is short
pub frames_short : (b : Batch) (l : Lent) → length b.pairs ≤ 24 → length (frames_text b l) ≤ 4096
unfolding frames_text
frames_short b l few =
    let head = head_line b.code b.rule b.limit (length b.pairs) in
    let lines = lines_from (line_at b.code (frames b) l) 0 (length b.pairs) in
    omega (
      arith,
      length-append head lines,
      head_short b.code b.rule b.limit (length b.pairs),
      lines_short (line_at b.code (frames b) l) (line_short b.code (frames b) l) 0 (length b.pairs),
    )

-- ---- the listing of an input that is not malformed

module _ (s : List ℕ) (good : malformed s ≡ false) where
  pub refused-line : (k : ℕ) → verdict (refusals (batch_in s)) ≡ refused k → refusal_line k ≡ listing_of s
  unfolding listing_of
  refused-line k v = simp (good, judged_refused (refusals (batch_in s)) (frames_text (batch_in s) (written (batch_in s))) k v)

  accepted-text : verdict (refusals (batch_in s)) ≡ nothing → frames_text (batch_in s) (written (batch_in s)) ≡ listing_of s
  unfolding listing_of
  accepted-text v = simp (good, judged_accepted (refusals (batch_in s)) (frames_text (batch_in s) (written (batch_in s))) v)

  pub accepted-short : verdict (refusals (batch_in s)) ≡ nothing → length (listing_of s) ≤ 4096
  accepted-short v = rw (← accepted-text v) (frames_short (batch_in s) (written (batch_in s)) (omega (arith, pairs_many s, accepted_few s v)))

  -- the lines of what the call was handed and left are the listing, whatever is in the work area
  pub fronts-text : verdict (refusals (batch_in s)) ≡ nothing → {values : List Float} {pairs bits counts rounds firsts : List ℕ} → values ≡ values_of s
      → pairs ≡ pair_numbers s
      → bits ≡ (written (batch_in s)).bits → counts ≡ (written (batch_in s)).counts → rounds ≡ (written (batch_in s)).rounds → firsts
      ≡ (written (batch_in s)).firsts
      → frames_text (batch (code_of s) (rule_of s) (limit_of s) (scale_of s) values (pairs_of pairs) (lent [] [] [] [] []))
      (lent bits counts rounds firsts []) ≡ listing_of s
  unfolding frames_text
  fronts-text v ev ep eb ec er ef = rw (ev, ep, eb, ec, er, ef) (accepted-text v)
